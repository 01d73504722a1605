use Rattle.spu_lift.specs.Checks.{IsNowhereBelow, within}
use Rattle.spu_lift.proofs.CoverPasses.{ShowsStrays}
use Rattle.spu_lift.proofs.lifting.Lifting.check_strays_in.Given as goal

abbrev pub invariant-loop-section : goal.invariant-loop-section
invariant-loop-section l = IsNowhereBelow (within l.object (ShowsStrays l.self.tables.objects.now)) l.section
