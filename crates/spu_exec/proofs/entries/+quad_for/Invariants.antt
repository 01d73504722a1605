use Rattle.std.proofs.Common.{length}
use Rattle.spu_exec.proofs.entries.+quad_for.Given as goal

abbrev pub decreases-quad_for : goal.decreases-quad_for
decreases-quad_for l = length l.areas.now
