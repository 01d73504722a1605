use Rattle.std.proofs.Common.{◌≡◌, length}
use Rattle.spu_image.proofs.planning.rooted.Given as goal

abbrev pub invariant-loop-k : goal.invariant-loop-k
invariant-loop-k l = length l.rooted ≡ l.k
