-- Reading lists of numbers by place, with elements set, added and taken out.
use Rattle.std.proofs.Common.{◌≡◌, ℕ, zero, suc, ◌<◌, ◌≤◌, ◌⊎◌, inl, inr, Bool, true, false, List, [], ◌∷◌, ◌++◌, length, set, drop, get_or, Some, None, refl, sym, ap, ◌∙◌, arith}
use Rattle.std.specs.Prelude.{slice_get, ◌==◌, ◌||◌, if◌then◌else◌}
use Rattle.std.specs.List.{IsDistinct, AllByRecursion, list_any}
use Rattle.std.proofs.Math.Dec.{eqb}
use Rattle.std.proofs.lemmas.Bool.{ne_eqb, eqb-true, eq-eqb, cond-false, cond-true}
use Rattle.spu_word.specs.Lists.{stands_on, without, before}

pub nat_equal : (m n : ℕ) → (m ≡ n) ⊎ (m ≡ n → ⊥)
nat_equal zero zero = inl refl
nat_equal zero (suc n) = inr (λ e. omega (arith, e))
nat_equal (suc m) zero = inr (λ e. omega (arith, e))
nat_equal (suc m) (suc n) = elim (nat_equal m n) as (λ s. (suc m ≡ suc n) ⊎ (suc m ≡ suc n → ⊥)) [ inl e ↦ inl (ap suc e) | inr ne ↦ inr (λ e. ne (omega (arith, e))) ]

pub less_or : (m n : ℕ) → (m < n) ⊎ (n ≤ m)
less_or zero zero = inr (omega arith)
less_or zero (suc n) = inl (omega arith)
less_or (suc m) zero = inr (omega arith)
less_or (suc m) (suc n) = elim (less_or m n) as (λ s. (suc m < suc n) ⊎ (suc n ≤ suc m)) [ inl a ↦ inl (omega arith) | inr b ↦ inr (omega arith) ]

-- ---- reading

pub get_set_same : {X : Type 0} (xs : List X) (i : ℕ) (y : X) → i < length xs → slice_get (set xs i y) i ≡ Some y
get_set_same [] i y lt = absurd (omega arith)
get_set_same (x ∷ xs) zero y lt = refl
get_set_same (x ∷ xs) (suc i) y lt = get_set_same xs i y (omega arith)

pub get_set_other : {X : Type 0} (xs : List X) (i j : ℕ) (y : X) → (j ≡ i → ⊥) → slice_get (set xs i y) j ≡ slice_get xs j
get_set_other [] i j y ne = refl
get_set_other (x ∷ xs) zero zero y ne = absurd (ne refl)
get_set_other (x ∷ xs) zero (suc j) y ne = refl
get_set_other (x ∷ xs) (suc i) zero y ne = refl
get_set_other (x ∷ xs) (suc i) (suc j) y ne = get_set_other xs i j y (λ e. ne (ap suc e))

pub get_within : {X : Type 0} (xs : List X) (i : ℕ) (x : X) → slice_get xs i ≡ Some x → i < length xs
get_within [] i x e = absurd (cc)
get_within (y ∷ xs) zero x e = omega arith
get_within (y ∷ xs) (suc i) x e = let lt = get_within xs i x e in omega (arith, lt)

pub get_some : {X : Type 0} (xs : List X) (i : ℕ) → i < length xs → (x : X) × (slice_get xs i ≡ Some x)
get_some [] i lt = absurd (omega arith)
get_some (y ∷ xs) zero lt = (y, refl)
get_some (y ∷ xs) (suc i) lt = get_some xs i (omega arith)

pub get_past : {X : Type 0} (xs : List X) (i : ℕ) → length xs ≤ i → slice_get xs i ≡ None
get_past [] i le = refl
get_past (y ∷ xs) zero le = absurd (omega arith)
get_past (y ∷ xs) (suc i) le = get_past xs i (omega arith)

pub get_none : {X : Type 0} (xs : List X) (i : ℕ) → slice_get xs i ≡ None → length xs ≤ i
get_none [] i e = omega arith
get_none (y ∷ xs) zero e = absurd (cc)
get_none (y ∷ xs) (suc i) e = let le = get_none xs i e in omega (arith, le)

pub get_or_get : {X : Type 0} (xs : List X) (i : ℕ) (x d : X) → slice_get xs i ≡ Some x → get_or xs i d ≡ x
get_or_get [] i x d e = absurd (cc)
get_or_get (y ∷ xs) zero x d e = cc
get_or_get (y ∷ xs) (suc i) x d e = get_or_get xs i x d e

pub drop_get : {X : Type 0} (xs : List X) (i : ℕ) (x : X) → slice_get xs i ≡ Some x → drop i xs ≡ x ∷ drop (suc i) xs
drop_get [] i x e = absurd (cc)
drop_get (y ∷ xs) zero x e = let same : y ≡ x = cc in ap (λ z. z ∷ xs) same
drop_get (y ∷ xs) (suc i) x e = drop_get xs i x e

-- an element more
pub get_more_before : {X : Type 0} (xs : List X) (y : X) (i : ℕ) → i < length xs → slice_get (xs ++ y ∷ []) i ≡ slice_get xs i
get_more_before [] y i lt = absurd (omega arith)
get_more_before (x ∷ xs) y zero lt = refl
get_more_before (x ∷ xs) y (suc i) lt = get_more_before xs y i (omega arith)

pub get_more_last : {X : Type 0} (xs : List X) (y : X) (i : ℕ) → i ≡ length xs → slice_get (xs ++ y ∷ []) i ≡ Some y
get_more_last [] y zero e = refl
get_more_last [] y (suc i) e = absurd (omega (arith, e))
get_more_last (x ∷ xs) y zero e = absurd (omega (arith, e))
get_more_last (x ∷ xs) y (suc i) e = get_more_last xs y i (omega (arith, e))

pub length_more : {X : Type 0} (xs : List X) (y : X) → length (xs ++ y ∷ []) ≡ suc (length xs)
length_more [] y = refl
length_more (x ∷ xs) y = ap suc (length_more xs y)

pub before_more : (xs : List ℕ) (y i : ℕ) → i ≤ length xs → before (xs ++ y ∷ []) i ≡ before xs i
before_more xs y zero le = refl
before_more xs y (suc i) le = get_more_before xs y i (omega arith)

-- ---- numbers that stand on a list

pub stands_place : (xs : List ℕ) (k s : ℕ) → slice_get xs k ≡ Some s → stands_on xs s ≡ true
stands_place [] k s e = absurd (cc)
stands_place (x ∷ xs) zero s e = let same : x ≡ s = cc in ap (λ b. b || stands_on xs s) (eq-eqb _ _ same)
stands_place (x ∷ xs) (suc k) s e = let rest = stands_place xs k s e in elim (x == s) as (λ b. (b || stands_on xs s) ≡ true) [ true ↦ refl | false ↦ rest ]

pub place_stands : (xs : List ℕ) (s : ℕ) → stands_on xs s ≡ true → (k : ℕ) × (slice_get xs k ≡ Some s)
place_stands [] s e = absurd (cc)
place_stands (x ∷ xs) s e = by_test (x == s) refl e (λ h. place_stands xs s h)
  where
    more : ((k : ℕ) × (slice_get xs k ≡ Some s)) → (k : ℕ) × (slice_get (x ∷ xs) k ≡ Some s)
    more (k, at) = (suc k, at)

    by_test : (b : Bool) → (x == s) ≡ b → (b || stands_on xs s) ≡ true → (stands_on xs s ≡ true → (k : ℕ) × (slice_get xs k ≡ Some s)) → (k : ℕ) × (slice_get (x ∷ xs) k ≡ Some s)
    by_test true t e rest = (zero, ap Some (eqb-true _ _ t))
    by_test false t e rest = more (rest e)

pub absent_place : (xs : List ℕ) (s : ℕ) → ((k : ℕ) → slice_get xs k ≡ Some s → ⊥) → stands_on xs s ≡ false
absent_place xs s h = by_test (stands_on xs s) refl
  where
    by_test : (b : Bool) → stands_on xs s ≡ b → stands_on xs s ≡ false
    by_test false e = e
    by_test true e = let at = place_stands xs s e in absurd (h at.0 at.1)

pub place_absent : (xs : List ℕ) (s k : ℕ) → stands_on xs s ≡ false → slice_get xs k ≡ Some s → ⊥
place_absent xs s k e at = let is = stands_place xs k s at in cc

-- ---- one element less

abbrev pub cut : ℕ → List ℕ → List ℕ
cut k [] = []
cut zero (x ∷ xs) = xs
cut (suc k) (x ∷ xs) = x ∷ cut k xs

pub get_cut_before : (k : ℕ) (xs : List ℕ) (j : ℕ) → j < k → slice_get (cut k xs) j ≡ slice_get xs j
get_cut_before k [] j lt = refl
get_cut_before zero (x ∷ xs) j lt = absurd (omega arith)
get_cut_before (suc k) (x ∷ xs) zero lt = refl
get_cut_before (suc k) (x ∷ xs) (suc j) lt = get_cut_before k xs j (omega arith)

pub get_cut_after : (k : ℕ) (xs : List ℕ) (j : ℕ) → k ≤ j → slice_get (cut k xs) j ≡ slice_get xs (suc j)
get_cut_after k [] j le = refl
get_cut_after zero (x ∷ xs) j le = refl
get_cut_after (suc k) (x ∷ xs) zero le = absurd (omega arith)
get_cut_after (suc k) (x ∷ xs) (suc j) le = get_cut_after k xs j (omega arith)

pub before_cut_before : (k : ℕ) (xs : List ℕ) (j : ℕ) → j ≤ k → before (cut k xs) j ≡ before xs j
before_cut_before k xs zero le = refl
before_cut_before k xs (suc j) le = get_cut_before k xs j (omega arith)

pub before_cut_after : (k : ℕ) (xs : List ℕ) (j : ℕ) → k < j → before (cut k xs) j ≡ slice_get xs j
before_cut_after k xs zero lt = absurd (omega arith)
before_cut_after k xs (suc j) lt = get_cut_after k xs j (omega arith)

pub length_cut : (k : ℕ) (xs : List ℕ) → k < length xs → suc (length (cut k xs)) ≡ length xs
length_cut k [] lt = absurd (omega arith)
length_cut zero (x ∷ xs) lt = refl
length_cut (suc k) (x ∷ xs) lt = ap suc (length_cut k xs (omega arith))

pub without_absent : (xs : List ℕ) (s : ℕ) → ((j : ℕ) → slice_get xs j ≡ Some s → ⊥) → without s xs ≡ xs
without_absent [] s h = refl
without_absent (x ∷ xs) s h = cond-false _ _ _ (ne_eqb x s (λ e. h zero (ap Some e))) ∙ ap (λ (z : List ℕ). x ∷ z) (without_absent xs s (λ j at. h (suc j) at))

pub without_cut : (xs : List ℕ) (k s : ℕ) → slice_get xs k ≡ Some s → ((j : ℕ) → slice_get xs j ≡ Some s → j ≡ k) → without s xs ≡ cut k xs
without_cut [] k s at once = refl
without_cut (x ∷ xs) zero s at once =
    cond-true _ _ _ (eq-eqb x s (cc)) ∙ without_absent xs s (λ j there. (let e = once (suc j) there in omega (arith, e)))
without_cut (x ∷ xs) (suc k) s at once =
    cond-false _ _ _ (ne_eqb x s (λ e. (let z = once zero (ap Some e) in omega (arith, z))))
    ∙ ap (λ (z : List ℕ). x ∷ z) (without_cut xs k s at (λ j there. (let e = once (suc j) there in omega (arith, e))))

pub stands_without : (xs : List ℕ) (s t : ℕ) → (t ≡ s → ⊥) → stands_on xs t ≡ true → stands_on (without s xs) t ≡ true
stands_without [] s t ne e = e
stands_without (x ∷ xs) s t ne e = by_first (x == s) refl (λ h. stands_without xs s t ne h)
  where
    rest : (x == t) ≡ false → stands_on xs t ≡ true
    rest f = sym (ap (λ b. b || stands_on xs t) f) ∙ e

    by_test : (b : Bool) → (x == t) ≡ b → (stands_on xs t ≡ true → stands_on (without s xs) t ≡ true) → (b || stands_on (without s xs) t) ≡ true
    by_test true f more = refl
    by_test false f more = more (rest f)

    by_first : (b : Bool) → (x == s) ≡ b → (stands_on xs t ≡ true → stands_on (without s xs) t ≡ true) → stands_on (if b then without s xs else x ∷ without s xs) t ≡ true
    by_first true f more = more (rest (ne_eqb x t (λ g. ne (sym g ∙ eqb-true _ _ f))))
    by_first false f more = by_test (x == t) refl more

pub stands_more : (xs : List ℕ) (y t : ℕ) → stands_on xs t ≡ true → stands_on (xs ++ y ∷ []) t ≡ true
stands_more xs y t e =
    let at = place_stands xs t e in
    let lt = get_within xs at.0 t at.1 in
    stands_place (xs ++ y ∷ []) at.0 t (get_more_before xs y at.0 lt ∙ at.1)

-- ---- lists without repetition

pub apart : (x : ℕ) (ys : List ℕ) → ((j : ℕ) → slice_get ys j ≡ Some x → ⊥) → AllByRecursion (λ y. eqb x y ≡ false) ys
apart x [] h = tt
apart x (y ∷ ys) h = (ne_eqb _ _ (λ e. h zero (ap Some (sym e))), apart x ys (λ j at. h (suc j) at))

pub distinct_places : (xs : List ℕ) → ((i j s : ℕ) → slice_get xs i ≡ Some s → slice_get xs j ≡ Some s → i ≡ j) → IsDistinct eqb xs
unfolding IsDistinct
distinct_places [] h = tt
distinct_places (x ∷ xs) h = (
  apart x xs (λ j at. (let e = h zero (suc j) x refl at in omega (arith, e))),
  distinct_places xs (λ i j s a b. (let e = h (suc i) (suc j) s a b in omega (arith, e))),
)

any_place : (xs : List ℕ) (q : ℕ) → list_any (eqb q) xs ≡ true → stands_on xs q ≡ true
any_place [] q e = cc
any_place (x ∷ xs) q e = by_test (eqb q x) refl e (λ h. any_place xs q h)
  where
    by_test : (b : Bool) → eqb q x ≡ b → (b || list_any (eqb q) xs) ≡ true → (list_any (eqb q) xs ≡ true → stands_on xs q ≡ true) → stands_on (x ∷ xs) q ≡ true
    by_test true t e more = ap (λ b. b || stands_on xs q) (eq-eqb x q (sym (eqb-true q x t)))
    by_test false t e more = let rest = more e in elim (x == q) as (λ b. (b || stands_on xs q) ≡ true) [ true ↦ refl | false ↦ rest ]

pub below_places : (xs : List ℕ) (n : ℕ) → ((k s : ℕ) → slice_get xs k ≡ Some s → s < n) → (q : ℕ) → list_any (eqb q) xs ≡ true → q < n
below_places xs n h q e = let at = place_stands xs q (any_place xs q e) in h at.0 q at.1
