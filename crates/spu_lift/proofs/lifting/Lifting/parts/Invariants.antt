use Rattle.spu_lift.specs.Built.{ArePartsBuilt}
use Rattle.spu_lift.proofs.lifting.Lifting.parts.Given as goal

abbrev pub invariant-loop-object : goal.invariant-loop-object
invariant-loop-object l = ArePartsBuilt l.self.tables.objects.now l.self.functions.sorted.items l.object 0 l.parts
