use Rattle.std.proofs.Common.{◌≡◌, length}
use Rattle.spu_ls_tests.proofs.Trials.{AreLettered}
use Rattle.spu_ls_tests.proofs.running.areas_of.Given as goal

abbrev pub invariant-loop-k : goal.invariant-loop-k
invariant-loop-k l = (length l.areas ≡ l.k) × AreLettered 97 l.areas
