-- The area that overlaps is one of those that there are.
use Rattle.std.proofs.Common.{◌≡◌, ℕ, suc, ◌+◌, ◌<◌, true, false, List, [], ◌∷◌, ◌++◌, Some, length, refl, arith, length-append}
use Rattle.std.specs.Prelude.{if◌then◌else◌}
use Rattle.spu_word.specs.declared.load.Area.{Area}
use Rattle.spu_exec.specs.Transfers.{Stretch}
use Rattle.spu_exec.specs.Admission.{overlaps, first_overlap}

pub overlap_below : (image : Stretch) (before areas : List Area) (k : ℕ) → first_overlap image before areas ≡ Some k → k < length before + length areas
overlap_below image before [] k e = absurd cc
overlap_below image before (a ∷ areas) k e =
    elim (overlaps image before a) as (λ b. (if b then Some (length before) else first_overlap image (before ++ a ∷ []) areas) ≡ Some k → k < length before + suc (length areas)) [
      | true ↦ λ h. let same : length before ≡ k = cc in omega arith
      | false ↦ λ h. let lt = overlap_below image (before ++ a ∷ []) areas k h in omega (arith, lt, length-append before (a ∷ []))
    ] e
