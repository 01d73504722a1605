use Rattle.std.proofs.Common.{◌≡◌, ◌++◌, take}
use Rattle.std.specs.List.{filter_map}
use Rattle.spu_lift.specs.Lifted.{global_of}
use Rattle.spu_lift.proofs.lifting.Lifting.push_globals.Given as goal

abbrev pub invariant-loop-symbol : goal.invariant-loop-symbol
invariant-loop-symbol l = l.globals ≡ l.initial.globals ++ filter_map (global_of l.self.tables.objects.now l.object) (take l.symbol-index l.symbols)
