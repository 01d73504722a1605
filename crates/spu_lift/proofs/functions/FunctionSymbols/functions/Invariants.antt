use Rattle.spu_lift.specs.FunctionTables.{AreSorted}
use Rattle.spu_lift.proofs.FirstSymbols.{AreFirsts}
use Rattle.spu_lift.proofs.functions.FunctionSymbols.functions.Given as goal

abbrev pub invariant-loop-f : goal.invariant-loop-f
invariant-loop-f l = AreSorted l.f-items → AreFirsts l.f-items l.f-index l.functions.items
