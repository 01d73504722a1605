use Rattle.spu_lift.specs.Checks.{IsNowhereBelow, ShowsSymbol, within}
use Rattle.spu_lift.proofs.tables.Tables.check_symbols_in.Given as goal

abbrev pub invariant-loop-number : goal.invariant-loop-number
invariant-loop-number l = IsNowhereBelow (within l.object (ShowsSymbol l.check l.self.objects.now)) l.number
