-- Passes that go through numbers in order: nothing is shown, or what is shown first.
use Rattle.std.proofs.Common.{◌≡◌, ℕ, ◌+◌, ◌<◌, ◌≤◌, List, [], ◌∷◌, length, get_or, Some, slice_get, refl, sym, ap, ◌∙◌, subst, inl, inr, arith}
use Rattle.std.specs.Prelude.{All}
use Rattle.std.proofs.lemmas.Bool.{cases_lt}
use Rattle.std.proofs.lemmas.Option.{get_or_from_slice_get, same_Some, slice_get_read, slice_get_within}
use Rattle.spu_lift.specs.declared.fault.LiftFault.{LiftFault}
use Rattle.spu_lift.specs.declared.fault.LiftFault.TheVariants as faults
use Rattle.spu_lift.specs.Extents.{IsEarlier}
use Rattle.spu_lift.specs.Checks.{IsAnswer, IsFirstIn, IsNoneBelow, IsNoneIn, IsNowhere, IsNowhereBelow, IsShownFirst, IsTold, within}

-- places by numbers
abbrev pub Shown : Type 1
Shown = List ℕ → LiftFault → Type 0

-- ---- one number more

pub none_below : (shown : Shown) → IsNowhereBelow shown 0
none_below shown = λ m less. absurd (omega arith)

pub one_more : (shown : Shown) (n : ℕ) → IsNowhereBelow shown n → IsNowhere (within n shown) → IsNowhereBelow shown (n + 1)
one_more shown n below here = λ m less. elim (cases_lt m n) [
  | inl before ↦ below m before
  | inr behind ↦ let same : n ≡ m = omega arith in subst (λ (k : ℕ). IsNowhere (within k shown)) same here
]

-- a place begins with less than this
abbrev pub Begins : ℕ → List ℕ → Type 0
Begins n [] = ⊥
Begins n (m ∷ ms) = m < n

pub nowhere_at_all : (shown : Shown) (n : ℕ) → ((place : List ℕ) (fault : LiftFault) → shown place fault → Begins n place) → IsNowhereBelow shown n → IsNowhere shown
nowhere_at_all shown n begins below [] fault here = begins ([]) fault here
nowhere_at_all shown n begins below (m ∷ ms) fault here = below m (begins (m ∷ ms) fault here) ms fault here

pub nowhere_past : (shown : Shown) (n i : ℕ) → n ≤ i → ((place : List ℕ) (fault : LiftFault) → shown place fault → Begins n place) → IsNowhereBelow shown i → IsNowhere shown
nowhere_past shown n i all begins below = nowhere_at_all shown n begins (λ m less. below m (omega arith))

-- ---- what is first

pub climb : (shown : Shown) (n : ℕ) (fault : LiftFault) → IsNowhereBelow shown n → IsShownFirst (within n shown) fault → IsShownFirst shown fault
climb shown n fault below first = record {
  place = n ∷ first.place;
  here = first.here;
  first = earlier;
}
  where
    earlier : (q : List ℕ) (other : LiftFault) → IsEarlier q (n ∷ first.place) → shown q other → ⊥
    earlier [] other before here = before
    earlier (m ∷ ms) other (inl less) here = below m less ms other here
    earlier (m ∷ ms) other (inr (same, before)) here = first.first ms other before (subst (λ (k : ℕ). shown (k ∷ ms) other) same here)

pub answer_climbs : (shown : Shown) (n : ℕ) (fault : LiftFault) → IsNowhereBelow shown n → IsAnswer (within n shown) fault → IsAnswer shown fault
answer_climbs shown n faults.NoEntry below first = climb shown n faults.NoEntry below first
answer_climbs shown n (faults.Symbol kind name) below first = climb shown n (faults.Symbol kind name) below first
answer_climbs shown n (faults.Site kind object section offset) below first = climb shown n (faults.Site kind object section offset) below first
answer_climbs shown n (faults.Word kind function offset) below first = climb shown n (faults.Word kind function offset) below first
answer_climbs shown n faults.OutOfMemory below first = first

-- what is told of the first place is an answer
first_answers : (shown : Shown) (fault : LiftFault) → IsShownFirst shown fault → IsAnswer shown fault
first_answers shown faults.NoEntry first = first
first_answers shown (faults.Symbol kind name) first = first
first_answers shown (faults.Site kind object section offset) first = first
first_answers shown (faults.Word kind function offset) first = first
first_answers shown faults.OutOfMemory first = tt

pub told_first : (shown : Shown) (told fault : LiftFault) → IsTold told fault → IsShownFirst shown fault → IsAnswer shown told
told_first shown faults.NoEntry fault is first = subst (IsAnswer shown) (sym is) (first_answers shown fault first)
told_first shown (faults.Symbol kind name) fault is first = subst (IsAnswer shown) (sym is) (first_answers shown fault first)
told_first shown (faults.Site kind object section offset) fault is first = subst (IsAnswer shown) (sym is) (first_answers shown fault first)
told_first shown (faults.Word kind function offset) fault is first = subst (IsAnswer shown) (sym is) (first_answers shown fault first)
told_first shown faults.OutOfMemory fault is first = tt

-- nothing is before the empty place
pub nothing_before : (q : List ℕ) → IsEarlier q ([]) → ⊥
nothing_before [] h = h
nothing_before (n ∷ ns) h = h

pub here_first : (shown : Shown) (fault : LiftFault) → shown ([]) fault → IsShownFirst shown fault
here_first shown fault here = record { place = []; here = here; first = λ q other before. absurd (nothing_before q before) }

-- ---- elements

pub none_below_more : {X : Type 0} (bad : ℕ → X → Type 0) (xs : List X) (i : ℕ) (x : X) → slice_get xs i ≡ Some x → (bad i x → ⊥) → IsNoneBelow bad xs i → IsNoneBelow bad xs (i + 1)
none_below_more {X} bad xs i x there good none j y less at is = elim (cases_lt j i) [
  | inl before ↦ none j y before at is
  | inr behind ↦
      let same : j ≡ i = omega arith in
      let found : slice_get xs i ≡ Some y = ap (slice_get xs) (sym same) ∙ at in
      let these : y ≡ x = same_Some y x (sym found ∙ there) in
      let here : bad i y = subst (λ (k : ℕ). bad k y) same is in
      good (subst (λ (z : X). bad i z) these here)
]

pub none_at_all : {X : Type 0} (bad : ℕ → X → Type 0) (xs : List X) (i : ℕ) → length xs ≤ i → IsNoneBelow bad xs i → IsNoneIn bad xs
none_at_all bad xs i all none j y at is =
    let within = slice_get_within xs j y at in
    none j y (omega arith) at is

-- or isn't such
pub none_yet : {X : Type 0} (bad : ℕ → X → Type 0) (xs : List X) (i : ℕ) (x : X) → i < length xs → x ≡ get_or xs i x → (bad i x → ⊥) → IsNoneBelow bad xs i → IsNoneBelow bad xs (i + 1)
none_yet bad xs i x within is good none = none_below_more bad xs i x (slice_get_read xs (length xs) i x refl within is) good none

pub all_at : {X : Type 0} (P : X → Type 0) (xs : List X) (i : ℕ) (x : X) → All P xs → slice_get xs i ≡ Some x → P x
all_at P xs i x all at = subst P (get_or_from_slice_get xs i x x at) (all i x (slice_get_within xs i x at))
