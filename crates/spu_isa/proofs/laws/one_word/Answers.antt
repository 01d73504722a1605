use Rattle.spu_isa.proofs.Words.{one_word_lem}
use Rattle.spu_isa.proofs.laws.one_word.Goals as goal

pub returns : goal.returns
returns c v w x p q = one_word_lem v w x p q
