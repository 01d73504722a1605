use Rattle.std.proofs.Common.{◌≤◌}
use Rattle.std.specs.Prelude.{All}
use Rattle.std.proofs.Common.{◌<◌}
use Rattle.spu_lift.specs.WellFormed.{IsRising}
use Rattle.spu_samples.proofs.programs.taken_numbers.Given as goal

abbrev pub invariant-loop-n : goal.invariant-loop-n
invariant-loop-n l = record { some : 1 ≤ l.least; rising : IsRising l.all; below : All (λ n. n < l.least) l.all; inside : All (λ n. (0 < n) × (n < l.end)) l.all }
