use Rattle.std.proofs.Common.{take}
use Rattle.spu_lift.specs.Defined.{AreDefined}
use Rattle.spu_lift.proofs.definitions.Definitions.of.Given as goal

abbrev pub invariant-loop-object : goal.invariant-loop-object
invariant-loop-object l = AreDefined (take l.object l.objects) l.definitions
