use Rattle.spu_lift.specs.Checks.{IsNowhereBelow, ShowsSymbol}
use Rattle.spu_lift.proofs.tables.Tables.check_symbols.Given as goal

abbrev pub invariant-loop-object : goal.invariant-loop-object
invariant-loop-object l = IsNowhereBelow (ShowsSymbol l.check l.self.objects.now) l.object
