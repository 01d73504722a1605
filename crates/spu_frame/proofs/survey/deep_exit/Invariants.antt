use Rattle.std.proofs.Common.{◌≡◌, ℕ, ◌<◌, Some}
use Rattle.spu_lift.specs.declared.program.SymInst.{SymInst}
use Rattle.spu_lift.specs.Places.{instruction_at}
use Rattle.spu_frame.specs.Frames.{IsExit}
use Rattle.spu_frame.specs.Surveys.{met_at, IsDeep}
use Rattle.spu_frame.proofs.survey.deep_exit.Given as goal

abbrev pub invariant-loop-i : goal.invariant-loop-i
invariant-loop-i l = (j : ℕ) (x : SymInst) → j < l.i → instruction_at l.p l.f j ≡ Some x → IsDeep (met_at l.met j) → IsExit l.p l.f x → ⊥
