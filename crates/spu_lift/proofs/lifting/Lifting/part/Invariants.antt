use Rattle.spu_lift.specs.Built.{AreLabels, AreWordsFilled}
use Rattle.spu_lift.proofs.lifting.Lifting.part.Given as goal

abbrev pub invariant-loop-word : goal.invariant-loop-word
invariant-loop-word l = record {
  words : AreWordsFilled l.self.tables.objects.now l.object l.section l.s.bytes l.word l.bytes;
  labels : AreLabels l.self.tables.objects.now l.self.functions.sorted.items l.object l.section l.word l.labels;
}
