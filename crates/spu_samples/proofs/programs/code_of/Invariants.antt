use Rattle.std.proofs.Common.{◌≡◌, ℕ, length, Some}
use Rattle.std.specs.Prelude.{slice_get}
use Rattle.spu_lift.specs.declared.program.SymInst.{SymInst}
use Rattle.spu_samples.proofs.Formed.{IsFine}
use Rattle.spu_samples.proofs.programs.code_of.Given as goal

abbrev pub invariant-loop-step : goal.invariant-loop-step
invariant-loop-step l = record { count : length l.code ≡ l.step-index; fine : (k : ℕ) (x : SymInst) → slice_get l.code k ≡ Some x → IsFine l.functions l.f (length l.steps) x }
