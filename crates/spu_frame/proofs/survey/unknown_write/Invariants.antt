use Rattle.std.proofs.Common.{◌≡◌, ℕ, ◌<◌, Some, ℤ}
use Rattle.spu_lift.specs.declared.program.SymInst.{SymInst}
use Rattle.spu_lift.specs.Places.{instruction_at, stack_pointer, Writes}
use Rattle.spu_frame.specs.Walks.{IsKnownWrite}
use Rattle.spu_frame.proofs.survey.unknown_write.Given as goal

abbrev pub invariant-loop-i : goal.invariant-loop-i
invariant-loop-i l = (j : ℕ) (x : SymInst) → j < l.i → instruction_at l.p l.f j ≡ Some x → Writes x stack_pointer → (k : ℤ) × IsKnownWrite l.p l.f j k
