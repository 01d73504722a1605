-- The worst flaw of the functions that were surveyed so far. No clause of a public call cites it.
use Rattle.std.specs.Prelude.{◌≡◌, ℕ, ◌<◌, ◌⊎◌, nat_lt, if◌then◌else◌, length, Option, Some, None, slice_get, List}
use Rattle.spu_lift.specs.declared.program.Prog.{Prog}
use Rattle.spu_frame.specs.declared.depths.Flaw.{Flaw}
use Rattle.spu_frame.specs.declared.faults.FrameKind.{FrameKind}
use Rattle.spu_frame.specs.declared.survey.FunctionDepths.{FunctionDepths}
use Rattle.spu_frame.specs.Faults.{IsFaulty, number_of}
use Rattle.spu_frame.specs.Surveys.{AreDepthsIn}

abbrev pub worse : Option Flaw → Flaw → Option Flaw
worse None next = Some next
worse (Some flaw) next = if nat_lt (number_of next.kind) (number_of flaw.kind) then Some next else Some flaw

-- the least fault of the functions below n, at its first place
pub record IsWorst (p : Prog) (n : ℕ) (flaw : Flaw) : Type 0 where
  pub function : flaw.function < n
  pub here : IsFaulty flaw.kind p flaw.function flaw.place
  pub least : (other : FrameKind) (g j : ℕ) → g < n → number_of other < number_of flaw.kind → IsFaulty other p g j → ⊥
  pub first : (g j : ℕ) → (g < flaw.function) ⊎ ((g ≡ flaw.function) × (j < flaw.place)) → IsFaulty flaw.kind p g j → ⊥

-- what is found in the functions below n
abbrev pub AreFound : Prog → ℕ → List FunctionDepths → Option Flaw → Type 0
AreFound p n ds (Some flaw) = IsWorst p n flaw
AreFound p n ds None = (length ds ≡ n) × ((f : ℕ) (d : FunctionDepths) → slice_get ds f ≡ Some d → AreDepthsIn p f d)
