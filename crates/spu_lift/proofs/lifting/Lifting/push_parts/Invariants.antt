use Rattle.spu_lift.specs.Built.{ArePartsBuilt}
use Rattle.spu_lift.proofs.lifting.Lifting.push_parts.Given as goal

abbrev pub invariant-loop-section : goal.invariant-loop-section
invariant-loop-section l = ArePartsBuilt l.self.tables.objects.now l.self.functions.sorted.items l.object l.section l.parts
