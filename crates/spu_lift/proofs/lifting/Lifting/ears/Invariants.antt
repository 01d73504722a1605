use Rattle.std.proofs.Common.{◌≡◌, take}
use Rattle.spu_lift.specs.Lifted.{ear_of, of_symbols}
use Rattle.spu_lift.proofs.lifting.Lifting.ears.Given as goal

abbrev pub invariant-loop-object : goal.invariant-loop-object
invariant-loop-object l = l.ears ≡ of_symbols (ear_of l.self.tables.objects.now) (take l.object l.self.tables.objects.now)
