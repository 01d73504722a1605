-- Lists in order: two with the same elements are the same list, and an element stands at one index.
use Rattle.std.proofs.Common.{◌≡◌, ℕ, zero, suc, ◌+◌, ◌<◌, ◌≤◌, ◌⊎◌, List, [], ◌∷◌, length, get_or, Option, Some, None, slice_get, map, refl, sym, ap, subst, ◌∙◌, inl, inr, arith}
use Rattle.std.specs.List.{Contains}
use Rattle.std.proofs.lemmas.Bool.{cases_order}
use Rattle.std.proofs.lemmas.Option.{slice_get_within, slice_get-get_or, get_or_from_slice_get, slice_get-map}
use Rattle.spu_word.proofs.Places.{get_some}
use Rattle.spu_lift.specs.Extents.{AreRising, Extent, IsEarlier, place_of}
use Rattle.spu_lift.specs.WellFormed.{IsRising}

-- ---- elements by index

pub contains_at : {X : Type 0} (xs : List X) (x : X) → Contains xs x → (i : ℕ) × (slice_get xs i ≡ Some x)
contains_at xs x (k, within, is) = (k, slice_get-get_or xs k x within ∙ ap Some is)

pub at_contains : {X : Type 0} (xs : List X) (i : ℕ) (x : X) → slice_get xs i ≡ Some x → Contains xs x
at_contains xs i x at = (i, slice_get_within xs i x at, get_or_from_slice_get xs i x x at)

pub none_contained : {X : Type 0} (x : X) → Contains [] x → ⊥
none_contained x (k, within, is) = absurd (omega (arith, within))

contained_next : {X : Type 0} (y : X) (xs : List X) (x : X) → Contains xs x → Contains (y ∷ xs) x
contained_next y xs x (k, within, is) = (suc k, omega (arith, within), is)

contained_here : {X : Type 0} (x : X) (xs : List X) → Contains (x ∷ xs) x
contained_here x xs = (zero, omega arith, refl)

some_one : {X : Type 0} (x y : X) → Some x ≡ Some y → x ≡ y
some_one x y e = cc

contained_cases : {X : Type 0} (y : X) (xs : List X) (x : X) → Contains (y ∷ xs) x → (y ≡ x) ⊎ Contains xs x
contained_cases y xs x (zero, within, is) = inl is
contained_cases y xs x (suc k, within, is) = inr (k, omega (arith, within), is)

-- ---- lists in an order

-- each element is before those behind it
abbrev pub Ascends : {X : Type 0} → (X → X → Type 0) → List X → Type 0
Ascends {X} Before xs = (i j : ℕ) (x y : X) → i < j → slice_get xs i ≡ Some x → slice_get xs j ≡ Some y → Before x y

pub record IsOrder {X : Type 0} (Before : X → X → Type 0) : Type 0 where
  pub apart : (x y : X) → Before x y → x ≡ y → ⊥
  pub one_way : (x y : X) → Before x y → Before y x → ⊥

ascends_rest : {X : Type 0} (Before : X → X → Type 0) (x : X) (xs : List X) → Ascends Before (x ∷ xs) → Ascends Before xs
ascends_rest Before x xs h i j a b less at there = h (suc i) (suc j) a b (omega (arith, less)) at there

first_before : {X : Type 0} (Before : X → X → Type 0) (x : X) (xs : List X) (y : X) → Ascends Before (x ∷ xs) → Contains xs y → Before x y
first_before Before x xs y h c = let at = contains_at xs y c in h zero (suc at.0) x y (omega arith) refl at.1

cons_same : {X : Type 0} (x y : X) (xs ys : List X) → x ≡ y → xs ≡ ys → x ∷ xs ≡ y ∷ ys
cons_same x y xs ys a b = cc

pub same_elements : {X : Type 0} (Before : X → X → Type 0) → IsOrder Before → (xs ys : List X) → Ascends Before xs → Ascends Before ys
    → ((z : X) → Contains xs z → Contains ys z) → ((z : X) → Contains ys z → Contains xs z) → xs ≡ ys
same_elements Before order [] [] a b there back = refl
same_elements Before order [] (y ∷ ys) a b there back = absurd (none_contained y (back y (contained_here y ys)))
same_elements Before order (x ∷ xs) [] a b there back = absurd (none_contained x (there x (contained_here x xs)))
same_elements {X} Before order (x ∷ xs) (y ∷ ys) a b there back =
    cons_same x y xs ys first (same_elements Before order xs ys (ascends_rest Before x xs a) (ascends_rest Before y ys b)
    (λ z c. rest x y xs ys a (sym first) z c (there z (contained_next x xs z c)))
    (λ z c. rest y x ys xs b first z c (back z (contained_next y ys z c))))
  where
    first : x ≡ y
    first = elim (contained_cases y ys x (there x (contained_here x xs))) [
      | inl e ↦ sym e
      | inr c ↦ elim (contained_cases x xs y (back y (contained_here y ys))) [
        | inl e ↦ e
        | inr d ↦ absurd (order.one_way x y (first_before Before x xs y a d) (first_before Before y ys x b c))
      ]
    ]

    rest : (p q : X) (ps qs : List X) → Ascends Before (p ∷ ps) → q ≡ p → (z : X) → Contains ps z → Contains (q ∷ qs) z → Contains qs z
    rest p q ps qs h same z c d = elim (contained_cases q qs z d) [
      | inl e ↦ absurd (order.apart p z (first_before Before p ps z h c) (sym same ∙ e))
      | inr e ↦ e
    ]

pub one_index : {X : Type 0} (Before : X → X → Type 0) → IsOrder Before → (xs : List X) (i j : ℕ) (x : X) → Ascends Before xs → slice_get xs i ≡ Some x → slice_get xs j ≡ Some x → i ≡ j
one_index Before order xs i j x h at there = elim (cases_order i j) [
  | inl same ↦ same
  | inr differ ↦ elim differ [
    | inl less ↦ absurd (order.apart x x (h i j x x less at there) refl)
    | inr more ↦ absurd (order.apart x x (h j i x x more there at) refl)
  ]
]

-- ---- numbers

numbers_from : (n : ℕ) (ns : List ℕ) → IsRising (n ∷ ns) → (j m : ℕ) → slice_get ns j ≡ Some m → n < m
numbers_from n [] h j m at = absurd (cc)
numbers_from n (k ∷ ns) h zero m at = let e : k ≡ m = some_one k m at in let less = h.0 in omega arith
numbers_from n (k ∷ ns) h (suc j) m at = let less = h.0 in let more = numbers_from k ns h.1 j m at in omega arith

rising_rest : (n : ℕ) (ns : List ℕ) → IsRising (n ∷ ns) → IsRising ns
rising_rest n [] h = tt
rising_rest n (m ∷ ns) h = h.1

pub numbers_ascend : (ns : List ℕ) → IsRising ns → Ascends ◌<◌ ns
numbers_ascend [] h i j x y less at there = absurd (cc)
numbers_ascend (n ∷ ns) h zero zero x y less at there = absurd (omega (arith, less))
numbers_ascend (n ∷ ns) h zero (suc j) x y less at there = let e : n ≡ x = some_one n x at in subst (λ m. m < y) e (numbers_from n ns h j y there)
numbers_ascend (n ∷ ns) h (suc i) zero x y less at there = absurd (omega (arith, less))
numbers_ascend (n ∷ ns) h (suc i) (suc j) x y less at there = numbers_ascend ns (rising_rest n ns h) i j x y (omega (arith, less)) at there

pub numbers_order : IsOrder ◌<◌
numbers_order = record { apart = λ x y less e. omega (arith, less, e); one_way = λ x y less more. omega (arith, less, more) }

pub same_numbers : (ns ms : List ℕ) → IsRising ns → IsRising ms → ((n : ℕ) → Contains ns n → Contains ms n) → ((n : ℕ) → Contains ms n → Contains ns n) → ns ≡ ms
same_numbers ns ms a b there back = same_elements ◌<◌ numbers_order ns ms (numbers_ascend ns a) (numbers_ascend ms b) there back

-- ---- what is ordered by a number of it

pub order_by : {X : Type 0} (f : X → ℕ) → IsOrder (λ (x y : X). f x < f y)
order_by f = record {
  apart = λ x y less e. (let same = ap f e in omega (arith, less, same));
  one_way = λ x y less more. omega (arith, less, more);
}

pub map_ascends : {X : Type 0} (f : X → ℕ) (xs : List X) → IsRising (map f xs) → Ascends (λ (x y : X). f x < f y) xs
map_ascends {X} f xs h i j x y less at there =
    numbers_ascend (map f xs) h i j (f x) (f y) less (slice_get-map f xs i ∙ ap (λ o. mapped o) at) (slice_get-map f xs j ∙ ap (λ o. mapped o) there)
  where
    mapped : Option X → Option ℕ
    mapped None = None
    mapped (Some z) = Some (f z)

-- ---- extents

pub earlier_along : (a b c : List ℕ) → IsEarlier a b → IsEarlier b c → IsEarlier a c
earlier_along [] [] c h k = h
earlier_along [] (y ∷ b) c h k = absurd h
earlier_along (x ∷ a) [] c h k = absurd h
earlier_along (x ∷ a) (y ∷ b) [] h k = absurd k
earlier_along (x ∷ a) (y ∷ b) (z ∷ c) (inl h) (inl k) = inl (omega (arith, h, k))
earlier_along (x ∷ a) (y ∷ b) (z ∷ c) (inl h) (inr (e, k)) = inl (omega (arith, h, e))
earlier_along (x ∷ a) (y ∷ b) (z ∷ c) (inr (e, h)) (inl k) = inl (omega (arith, e, k))
earlier_along (x ∷ a) (y ∷ b) (z ∷ c) (inr (e, h)) (inr (f, k)) = inr (e ∙ f, earlier_along a b c h k)

pub never_earlier : (a : List ℕ) → IsEarlier a a → ⊥
never_earlier [] h = h
never_earlier (x ∷ a) (inl h) = omega (arith, h)
never_earlier (x ∷ a) (inr (e, h)) = never_earlier a h

abbrev pub IsExtentBefore : Extent → Extent → Type 0
IsExtentBefore x y = IsEarlier (place_of x) (place_of y)

pub extents_order : IsOrder IsExtentBefore
extents_order = record {
  apart = λ x y before e. never_earlier (place_of y) (subst (λ (z : Extent). IsEarlier (place_of z) (place_of y)) e before);
  one_way = λ x y before behind. never_earlier (place_of x) (earlier_along (place_of x) (place_of y) (place_of x) before behind);
}

extents_from : (x : Extent) (xs : List Extent) → AreRising (x ∷ xs) → (j : ℕ) (y : Extent) → slice_get xs j ≡ Some y → IsExtentBefore x y
extents_from x [] h j y at = absurd (cc)
extents_from x (z ∷ xs) h zero y at = subst (λ (w : Extent). IsExtentBefore x w) (some_one z y at) h.0
extents_from x (z ∷ xs) h (suc j) y at = earlier_along (place_of x) (place_of z) (place_of y) h.0 (extents_from z xs h.1 j y at)

extents_rest : (x : Extent) (xs : List Extent) → AreRising (x ∷ xs) → AreRising xs
extents_rest x [] h = tt
extents_rest x (y ∷ xs) h = h.1

pub extents_ascend : (xs : List Extent) → AreRising xs → Ascends IsExtentBefore xs
extents_ascend [] h i j x y less at there = absurd (cc)
extents_ascend (z ∷ xs) h zero zero x y less at there = absurd (omega (arith, less))
extents_ascend (z ∷ xs) h zero (suc j) x y less at there = subst (λ (w : Extent). IsExtentBefore w y) (some_one z x at) (extents_from z xs h j y there)
extents_ascend (z ∷ xs) h (suc i) zero x y less at there = absurd (omega (arith, less))
extents_ascend (z ∷ xs) h (suc i) (suc j) x y less at there = extents_ascend xs (extents_rest z xs h) i j x y (omega (arith, less)) at there
