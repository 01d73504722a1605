-- Lists with one more at the end, and without their first.
use Rattle.std.proofs.Common.{◌≡◌, ℕ, suc, ◌<◌, ◌≤◌, ◌++◌, List, [], ◌∷◌, Bool, true, false, length, Some, refl, ap, arith}
use Rattle.std.specs.Prelude.{slice_get, ◌==◌, if◌then◌else◌}
use Rattle.std.proofs.lemmas.Bool.{eq-eqb, cond-true}
use Rattle.spu_word.specs.Lists.{stands_on, without}
use Rattle.spu_word.proofs.Places.{get_more_last, stands_place, stands_more}

pub stands_last : (xs : List ℕ) (s : ℕ) → stands_on (xs ++ s ∷ []) s ≡ true
stands_last xs s = stands_place (xs ++ s ∷ []) (length xs) s (get_more_last xs s (length xs) refl)

pub stays_off : (xs : List ℕ) (s k : ℕ) → stands_on (xs ++ s ∷ []) k ≡ false → stands_on xs k ≡ false
stays_off xs s k off = by_stand (stands_on xs k) refl
  where
    by_stand : (b : Bool) → stands_on xs k ≡ b → stands_on xs k ≡ false
    by_stand false e = e
    by_stand true e = let on = stands_more xs s k e in cc

without_one : (x : ℕ) (xs : List ℕ) (s : ℕ) (b : Bool) → length (without s xs) ≤ length xs → length (if b then without s xs else x ∷ without s xs) ≤ suc (length xs)
without_one x xs s true rest = omega (arith, rest)
without_one x xs s false rest = omega (arith, rest)

pub without_le : (xs : List ℕ) (s : ℕ) → length (without s xs) ≤ length xs
without_le [] s = omega arith
without_le (x ∷ xs) s = without_one x xs s (x == s) (without_le xs s)

pub without_first : (xs : List ℕ) (s : ℕ) → Some s ≡ slice_get xs 0 → length (without s xs) < length xs
without_first [] s e = absurd (cc)
without_first (x ∷ xs) s e =
    let same : x ≡ s = cc in
    let le = without_le xs s in
    let first = ap length (cond-true (x == s) (without s xs) (x ∷ without s xs) (eq-eqb x s same)) in
    omega (arith, le, first)
