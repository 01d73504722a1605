use Rattle.std.proofs.Common.{◌≡◌, ℕ, take}
use Rattle.spu_lift.specs.LookUps.{Notes}
use Rattle.spu_lift.proofs.relocations.Relocations.of.Given as goal

abbrev pub invariant-loop-object : goal.invariant-loop-object
invariant-loop-object l = Notes (take l.object l.objects) l.relocations
