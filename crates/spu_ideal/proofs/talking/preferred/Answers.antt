use Rattle.spu_ideal.proofs.Going.{numbers_quad}
use Rattle.spu_ideal.proofs.talking.preferred.Goals as goal

pub returns : goal.returns
returns c = numbers_quad c.word_quad.result c.args.word 0 c.word_quad.ensures
