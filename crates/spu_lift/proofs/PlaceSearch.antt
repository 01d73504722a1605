-- The search through places in their order: something is shown first, or nowhere.
use Rattle.std.proofs.Common.{◌≡◌, ℕ, zero, suc, ◌+◌, ◌<◌, ◌⊎◌, List, [], ◌∷◌, subst, inl, inr, arith}
use Rattle.spu_lift.specs.declared.fault.LiftFault.{LiftFault}
use Rattle.spu_lift.specs.Checks.{IsNowhere, IsNowhereBelow, IsShownFirst, within}
use Rattle.spu_lift.proofs.FirstPlaces.{Shown, climb, here_first, none_below, one_more}
use Rattle.spu_lift.proofs.Decisions.{Decided}

-- what is told at a place
abbrev pub IsToldAt : Shown → List ℕ → Type 0
IsToldAt shown place = (fault : LiftFault) × shown place fault

abbrev pub IsFirstSomewhere : Shown → Type 0
IsFirstSomewhere shown = (fault : LiftFault) × IsShownFirst shown fault

abbrev pub IsFirstOrNowhere : Shown → Type 0
IsFirstOrNowhere shown = IsFirstSomewhere shown ⊎ IsNowhere shown

-- a place has at most so many numbers, and each is below what the ones before it say
abbrev pub IsBoundedPlace : ℕ → (List ℕ → ℕ) → List ℕ → Type 0
IsBoundedPlace depth bound [] = Unit {0}
IsBoundedPlace zero bound (n ∷ ns) = ⊥
IsBoundedPlace (suc depth) bound (n ∷ ns) = (n < bound ([])) × IsBoundedPlace depth (λ ms. bound (n ∷ ms)) ns

below : (shown : Shown) → ((n : ℕ) → IsFirstOrNowhere (within n shown)) → (n : ℕ) → IsFirstSomewhere shown ⊎ IsNowhereBelow shown n
below shown each zero = inr (none_below shown)
below shown each (suc n) = elim (below shown each n) [
  | inl found ↦ inl found
  | inr none ↦ elim (each n) [
    | inl first ↦ inl (first.0, climb shown n first.0 none first.1)
    | inr absent ↦
        let next : n + 1 ≡ suc n = omega arith in
        inr (subst (IsNowhereBelow shown) next (one_more shown n none absent))
  ]
]

none_in_empty : (shown : Shown) (bound : List ℕ → ℕ) → (IsToldAt shown ([]) → ⊥) → ((place : List ℕ) (fault : LiftFault) → shown place fault → IsBoundedPlace zero bound place) → IsNowhere shown
none_in_empty shown bound none bounded [] fault here = none (fault, here)
none_in_empty shown bound none bounded (n ∷ ns) fault here = bounded (n ∷ ns) fault here

none_in_numbers : (shown : Shown) (depth : ℕ) (bound : List ℕ → ℕ) → (IsToldAt shown ([]) → ⊥) → ((place : List ℕ) (fault : LiftFault) → shown place fault → IsBoundedPlace (suc depth) bound place)
    → IsNowhereBelow shown (bound ([])) → IsNowhere shown
none_in_numbers shown depth bound none bounded absent [] fault here = none (fault, here)
none_in_numbers shown depth bound none bounded absent (n ∷ ns) fault here = absent n ((bounded (n ∷ ns) fault here).0) ns fault here

pub first_or_nowhere : (depth : ℕ) (bound : List ℕ → ℕ) (shown : Shown) → ((place : List ℕ) → Decided (IsToldAt shown place)) → ((place : List ℕ) (fault : LiftFault) → shown place fault → IsBoundedPlace depth bound place)
    → IsFirstOrNowhere shown
first_or_nowhere zero bound shown decide bounded = elim (decide ([])) [
  | inl told ↦ inl (told.0, here_first shown told.0 told.1)
  | inr none ↦ inr (none_in_empty shown bound none bounded)
]
first_or_nowhere (suc depth) bound shown decide bounded = elim (decide ([])) [
  | inl told ↦ inl (told.0, here_first shown told.0 told.1)
  | inr none ↦ elim (below shown (λ n. first_or_nowhere depth (λ ms. bound (n ∷ ms)) (within n shown) (λ ms. decide (n ∷ ms)) (λ ms fault here. (bounded (n ∷ ms) fault here).1)) (bound ([]))) [
    | inl first ↦ inl first
    | inr absent ↦ inr (none_in_numbers shown depth bound none bounded absent)
  ]
]
