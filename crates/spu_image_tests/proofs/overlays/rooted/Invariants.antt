use Rattle.std.proofs.Common.{◌≡◌, length}
use Rattle.spu_image_tests.proofs.overlays.rooted.Given as goal

abbrev pub invariant-loop-k : goal.invariant-loop-k
invariant-loop-k l = length l.flags ≡ l.k
