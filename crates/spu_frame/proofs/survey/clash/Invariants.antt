use Rattle.std.proofs.Common.{ℕ, ◌<◌}
use Rattle.spu_frame.specs.Surveys.{met_at, IsTwice}
use Rattle.spu_frame.proofs.survey.clash.Given as goal

abbrev pub invariant-loop-i : goal.invariant-loop-i
invariant-loop-i l = (j : ℕ) → j < l.i → IsTwice (met_at l.met j) → ⊥
