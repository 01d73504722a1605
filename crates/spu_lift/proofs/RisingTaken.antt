-- Numbers that are put into a list in rising order, where they pass a test.
use Rattle.std.proofs.Common.{◌≡◌, ℕ, zero, suc, ◌+◌, ◌<◌, ◌≤◌, ◌⊎◌, ◌↔◌, Bool, true, false, List, [], ◌∷◌, ◌++◌, length, Option, Some, None, slice_get, refl, sym, ap, subst, ◌∙◌, inl, inr, arith}
use Rattle.std.specs.List.{Contains}
use Rattle.std.proofs.lemmas.Bool.{cases_lt}
use Rattle.std.proofs.lemmas.Option.{none-some}
use Rattle.spu_lift.specs.WellFormed.{IsRising}
use Rattle.spu_lift.proofs.Gathering.{in_pushed, last_pushed, left_joined}
use Rattle.spu_lift.proofs.Rising.{at_contains, contains_at}

-- the numbers from 1 to below n that pass, in rising order
pub record ArePassing (such : ℕ → Bool) (n : ℕ) (xs : List ℕ) : Type 0 where
  pub rising : IsRising xs
  pub each : (i m : ℕ) → slice_get xs i ≡ Some m → (1 ≤ m) × (m < n) × (such m ≡ true)
  pub all : (m : ℕ) → 1 ≤ m → m < n → such m ≡ true → (i : ℕ) × (slice_get xs i ≡ Some m)

pub none_passing : (such : ℕ → Bool) → ArePassing such 1 []
none_passing such = record {
  rising = tt;
  each = λ i m at. absurd (none-some m at);
  all = λ m some less is. absurd (omega arith);
}

rising_pushed : (xs : List ℕ) (n : ℕ) → IsRising xs → ((i m : ℕ) → slice_get xs i ≡ Some m → m < n) → IsRising (xs ++ n ∷ [])
rising_pushed [] n rising below = tt
rising_pushed (x ∷ []) n rising below = (below 0 x refl, tt)
rising_pushed (x ∷ y ∷ ys) n rising below = (rising.0, rising_pushed (y ∷ ys) n rising.1 (λ i m at. below (suc i) m at))

pub one_passing : (such : ℕ → Bool) (n : ℕ) (xs : List ℕ) → 1 ≤ n → such n ≡ true → ArePassing such n xs → ArePassing such (n + 1) (xs ++ n ∷ [])
one_passing such n xs some passes are = record {
  rising = rising_pushed xs n are.rising (λ i m at. (are.each i m at).1);
  each = λ i m at. elim (in_pushed xs n i m at) [
    | inl old ↦ let was = are.each i m old in let less = was.1 in (was.0, omega arith, was.2)
    | inr new ↦ let same = new.1 in (omega arith, omega arith, ap such same ∙ passes)
  ];
  all = λ m from less is. elim (cases_lt m n) [
    | inl before ↦ let was = are.all m from before is in (was.0, left_joined xs (n ∷ []) was.0 m was.1)
    | inr here ↦ let same : n ≡ m = omega arith in (length xs, last_pushed xs n ∙ ap Some same)
  ];
}

pub skipped_passing : (such : ℕ → Bool) (n : ℕ) (xs : List ℕ) → such n ≡ false → ArePassing such n xs → ArePassing such (n + 1) xs
skipped_passing such n xs fails are = record {
  rising = are.rising;
  each = λ i m at. let was = are.each i m at in let less = was.1 in (was.0, omega arith, was.2);
  all = λ m from less is. elim (cases_lt m n) [
    | inl before ↦ are.all m from before is
    | inr here ↦ let same : m ≡ n = omega arith in let bad : such n ≡ true = ap such (sym same) ∙ is in absurd (cc)
  ];
}

pub passing_contained : (such : ℕ → Bool) (n : ℕ) (xs : List ℕ) → ArePassing such n xs → (m : ℕ) → Contains xs m ↔ ((1 ≤ m) × (m < n) × (such m ≡ true))
passing_contained such n xs are m = (λ has. let at = contains_at xs m has in are.each at.0 m at.1, λ is. let at = are.all m is.0 is.1 is.2 in at_contains xs at.0 m at.1)
