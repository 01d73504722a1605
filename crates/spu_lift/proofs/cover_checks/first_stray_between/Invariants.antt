use Rattle.spu_lift.specs.Checks.{AreFillers}
use Rattle.spu_lift.proofs.cover_checks.first_stray_between.Given as goal

abbrev pub invariant-loop-i : goal.invariant-loop-i
invariant-loop-i l = AreFillers l.bytes l.from l.i
