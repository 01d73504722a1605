use Rattle.std.proofs.Common.{◌≡◌, ◌++◌, take}
use Rattle.std.specs.List.{filter_map}
use Rattle.spu_lift.specs.Lifted.{ear_of}
use Rattle.spu_lift.proofs.lifting.Lifting.push_ears.Given as goal

abbrev pub invariant-loop-symbol : goal.invariant-loop-symbol
invariant-loop-symbol l = l.ears ≡ l.initial.ears ++ filter_map (ear_of l.self.tables.objects.now l.object) (take l.symbol-index l.o.symbols)
