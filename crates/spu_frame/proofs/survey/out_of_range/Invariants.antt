use Rattle.std.proofs.Common.{ℕ, ◌<◌}
use Rattle.spu_frame.specs.Surveys.{met_at, behind_node, IsMetInRange}
use Rattle.spu_frame.proofs.survey.out_of_range.Given as goal

abbrev pub invariant-loop-i : goal.invariant-loop-i
invariant-loop-i l = (j : ℕ) → j < l.i → IsMetInRange (met_at l.met j) × IsMetInRange (behind_node l.known l.met j)
