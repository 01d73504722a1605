use Rattle.spu_lift.proofs.CoverPasses.{IsPassed}
use Rattle.spu_lift.proofs.cover_checks.first_stray.Given as goal

abbrev pub invariant-loop-f : goal.invariant-loop-f
invariant-loop-f l = IsPassed l.bytes l.functions l.f-index l.covered
