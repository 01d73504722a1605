use Rattle.spu_lift.specs.Checks.{IsNowhereBelow}
use Rattle.spu_lift.proofs.CoverPasses.{ShowsStrays}
use Rattle.spu_lift.proofs.lifting.Lifting.check_strays.Given as goal

abbrev pub invariant-loop-object : goal.invariant-loop-object
invariant-loop-object l = IsNowhereBelow (ShowsStrays l.self.tables.objects.now) l.object
