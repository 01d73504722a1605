-- What is gathered from the elements of a list, and where each of it comes from.
use Rattle.std.proofs.Common.{◌≡◌, ℕ, zero, suc, ◌+◌, ◌*◌, ◌<◌, ◌≤◌, ◌⊎◌, List, [], ◌∷◌, ◌++◌, length, Option, Some, None, slice_get, refl, sym, ap, subst, ◌∙◌, inl, inr, arith, add-zero, length-append}
use Rattle.std.specs.List.{cons_option, enumerate_from, filter_map, flat_map}
use Rattle.std.proofs.lemmas.Option.{none-some, same_Some}

-- ---- two lists

pub in_joined : {X : Type 0} (xs ys : List X) (i : ℕ) (y : X) → slice_get (xs ++ ys) i ≡ Some y → (slice_get xs i ≡ Some y) ⊎ ((m : ℕ) × (slice_get ys m ≡ Some y))
in_joined [] ys i y is = inr (i, is)
in_joined (x ∷ xs) ys zero y is = inl is
in_joined (x ∷ xs) ys (suc i) y is = in_joined xs ys i y is

pub left_joined : {X : Type 0} (xs ys : List X) (i : ℕ) (y : X) → slice_get xs i ≡ Some y → slice_get (xs ++ ys) i ≡ Some y
left_joined [] ys i y is = absurd (none-some y is)
left_joined (x ∷ xs) ys zero y is = is
left_joined (x ∷ xs) ys (suc i) y is = left_joined xs ys i y is

pub right_joined : {X : Type 0} (xs ys : List X) (m : ℕ) (y : X) → slice_get ys m ≡ Some y → (i : ℕ) × (slice_get (xs ++ ys) i ≡ Some y)
right_joined [] ys m y is = (m, is)
right_joined (x ∷ xs) ys m y is = let rest = right_joined xs ys m y is in (suc rest.0, rest.1)

-- one more element
pub in_pushed : {X : Type 0} (xs : List X) (x : X) (i : ℕ) (y : X) → slice_get (xs ++ x ∷ []) i ≡ Some y → (slice_get xs i ≡ Some y) ⊎ ((i ≡ length xs) × (y ≡ x))
in_pushed [] x zero y is = inr (refl, sym (same_Some x y is))
in_pushed [] x (suc i) y is = absurd (none-some y is)
in_pushed (z ∷ xs) x zero y is = inl is
in_pushed (z ∷ xs) x (suc i) y is = elim (in_pushed xs x i y is) [
  | inl old ↦ inl old
  | inr new ↦ inr (ap suc new.0, new.1)
]

pub last_pushed : {X : Type 0} (xs : List X) (x : X) → slice_get (xs ++ x ∷ []) (length xs) ≡ Some x
last_pushed [] x = refl
last_pushed (z ∷ xs) x = last_pushed xs x

-- ---- what a list is mapped to

pub in_mapped : {X Y : Type 0} (h : X → Option Y) (xs : List X) (i : ℕ) (y : Y) → slice_get (filter_map h xs) i ≡ Some y → (k : ℕ) × (x : X) × (slice_get xs k ≡ Some x) × (h x ≡ Some y)
in_mapped h [] i y is = absurd (none-some y is)
in_mapped {X} {Y} h (x ∷ xs) i y is = by (λ m at. in_mapped h xs m y at) (h x) refl i is
  where
    by : ((m : ℕ) → slice_get (filter_map h xs) m ≡ Some y → (k : ℕ) × (z : X) × (slice_get xs k ≡ Some z) × (h z ≡ Some y))
        → (o : Option Y) → h x ≡ o → (i : ℕ) → slice_get (cons_option o (filter_map h xs)) i ≡ Some y → (k : ℕ) × (z : X) × (slice_get (x ∷ xs) k ≡ Some z) × (h z ≡ Some y)
    by rest None gives i is = let found = rest i is in (suc found.0, found.1, found.2, found.3)
    by rest (Some z) gives zero is = (0, x, refl, gives ∙ is)
    by rest (Some z) gives (suc i) is = let found = rest i is in (suc found.0, found.1, found.2, found.3)

pub have_mapped : {X Y : Type 0} (h : X → Option Y) (xs : List X) (k : ℕ) (x : X) (y : Y) → slice_get xs k ≡ Some x → h x ≡ Some y → (i : ℕ) × (slice_get (filter_map h xs) i ≡ Some y)
have_mapped h [] k x y there gives = absurd (none-some x there)
have_mapped h (z ∷ xs) zero x y there gives =
    let here : h z ≡ Some y = ap h (same_Some z x there) ∙ gives in
    (0, ap (λ o. slice_get (cons_option o (filter_map h xs)) 0) here)
have_mapped {X} {Y} h (z ∷ xs) (suc k) x y there gives = let rest = have_mapped h xs k x y there gives in by (h z) rest.0 rest.1
  where
    by : (o : Option Y) (i : ℕ) → slice_get (filter_map h xs) i ≡ Some y → (m : ℕ) × (slice_get (cons_option o (filter_map h xs)) m ≡ Some y)
    by None i is = (i, is)
    by (Some w) i is = (suc i, is)

pub few_mapped : {X Y : Type 0} (h : X → Option Y) (xs : List X) → length (filter_map h xs) ≤ length xs
few_mapped h [] = omega arith
few_mapped {X} {Y} h (x ∷ xs) = by (few_mapped h xs) (h x)
  where
    by : length (filter_map h xs) ≤ length xs → (o : Option Y) → length (cons_option o (filter_map h xs)) ≤ length (x ∷ xs)
    by rest None = omega arith
    by rest (Some y) = omega arith

-- ---- lists that are joined

pub in_flat : {X Y : Type 0} (f : X → List Y) (xs : List X) (i : ℕ) (y : Y) → slice_get (flat_map f xs) i ≡ Some y → (k : ℕ) × (x : X) × (m : ℕ) × (slice_get xs k ≡ Some x) × (slice_get (f x) m ≡ Some y)
in_flat f [] i y is = absurd (none-some y is)
in_flat f (x ∷ xs) i y is = elim (in_joined (f x) (flat_map f xs) i y is) [
  | inl here ↦ (0, x, i, refl, here)
  | inr behind ↦ let rest = in_flat f xs behind.0 y behind.1 in (suc rest.0, rest.1, rest.2, rest.3, rest.4)
]

pub have_flat : {X Y : Type 0} (f : X → List Y) (xs : List X) (k : ℕ) (x : X) (m : ℕ) (y : Y) → slice_get xs k ≡ Some x → slice_get (f x) m ≡ Some y → (i : ℕ) × (slice_get (flat_map f xs) i ≡ Some y)
have_flat f [] k x m y there has = absurd (none-some x there)
have_flat f (z ∷ xs) zero x m y there has =
    let here : slice_get (f z) m ≡ Some y = ap (λ w. slice_get (f w) m) (same_Some z x there) ∙ has in
    (m, left_joined (f z) (flat_map f xs) m y here)
have_flat f (z ∷ xs) (suc k) x m y there has =
    let rest = have_flat f xs k x m y there has in
    right_joined (f z) (flat_map f xs) rest.0 y rest.1

pub few_flat : {X Y : Type 0} (f : X → List Y) (most : ℕ) (xs : List X) → ((k : ℕ) (x : X) → slice_get xs k ≡ Some x → length (f x) ≤ most) → length (flat_map f xs) ≤ length xs * most
few_flat f most [] each = omega arith
few_flat f most (x ∷ xs) each =
    let here = each 0 x refl in
    let rest = few_flat f most xs (λ k z there. each (suc k) z there) in
    let sum : length (f x ++ flat_map f xs) ≡ length (f x) + length (flat_map f xs) = length-append (f x) (flat_map f xs) in
    omega arith

-- ---- elements with their numbers

pub in_numbered : {X : Type 0} (n : ℕ) (xs : List X) (k : ℕ) (p : ℕ × X) → slice_get (enumerate_from n xs) k ≡ Some p → (p.0 ≡ n + k) × (slice_get xs k ≡ Some p.1)
in_numbered n [] k p is = absurd (none-some p is)
in_numbered n (x ∷ xs) zero p is =
    let same : (n, x) ≡ p = same_Some (n, x) p is in
    (ap (λ q. q.0) (sym same) ∙ sym (add-zero n), ap (λ q. Some q.1) same)
in_numbered n (x ∷ xs) (suc k) p is = let rest = in_numbered (n + 1) xs k p is in (omega arith, rest.1)

pub have_numbered : {X : Type 0} (n : ℕ) (xs : List X) (k : ℕ) (x : X) → slice_get xs k ≡ Some x → slice_get (enumerate_from n xs) k ≡ Some (n + k, x)
have_numbered n [] k x there = absurd (none-some x there)
have_numbered n (z ∷ xs) zero x there = ap (λ m. Some (m, z)) (sym (add-zero n)) ∙ ap (λ w. Some (n + 0, w)) (same_Some z x there)
have_numbered n (z ∷ xs) (suc k) x there =
    let sum : (n + 1) + k ≡ n + suc k = omega arith in
    have_numbered (n + 1) xs k x there ∙ ap (λ m. Some (m, x)) sum
