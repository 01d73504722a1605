use Rattle.spu_lift.specs.Checks.{IsNowhereBelow, ShowsReloc}
use Rattle.spu_lift.proofs.lifting.Lifting.check_relocations.Given as goal

abbrev pub invariant-loop-object : goal.invariant-loop-object
invariant-loop-object l = IsNowhereBelow (ShowsReloc l.check l.self.tables.objects.now) l.object
