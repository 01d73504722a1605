use Rattle.spu_lift.specs.Built.{AreInstructions}
use Rattle.spu_lift.proofs.lifting.Lifting.instructions.Given as goal

abbrev pub invariant-loop-word : goal.invariant-loop-word
invariant-loop-word l = AreInstructions l.self.tables.objects.now l.self.functions.sorted.items l.function l.f l.word l.code
