use Rattle.spu_lift.proofs.WordPasses.{HasNoneBelow}
use Rattle.spu_lift.proofs.lifting.Lifting.first_word_in.Given as goal

abbrev pub invariant-loop-word : goal.invariant-loop-word
invariant-loop-word l = HasNoneBelow l.check l.self.tables.objects.now l.f l.word
