use Rattle.spu_lift.proofs.WordPasses.{AreWordsGood}
use Rattle.spu_lift.proofs.lifting.Lifting.check_words.Given as goal

abbrev pub invariant-loop-index : goal.invariant-loop-index
invariant-loop-index l = AreWordsGood l.check l.self.tables.objects.now l.self.functions.sorted.items l.index
