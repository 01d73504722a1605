use Rattle.std.proofs.Common.{◌≡◌, take}
use Rattle.spu_lift.specs.Lifted.{global_of, of_symbols}
use Rattle.spu_lift.proofs.lifting.Lifting.globals.Given as goal

abbrev pub invariant-loop-object : goal.invariant-loop-object
invariant-loop-object l = l.globals ≡ of_symbols (global_of l.self.tables.objects.now) (take l.object l.self.tables.objects.now)
