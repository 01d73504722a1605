use Rattle.spu_word.specs.declared.limits.TheConstants.{STACK_TOP}
use Rattle.spu_ideal.proofs.Going.{numbers_quad}
use Rattle.spu_ideal.proofs.loading.stack_quad.Goals as goal

pub returns : goal.returns
returns c = numbers_quad c.stack_words.result STACK_TOP c.args.limit c.stack_words.ensures
