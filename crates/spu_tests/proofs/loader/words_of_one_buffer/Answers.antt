use Rattle.std.proofs.Common.{arith, refl}
use Rattle.spu_tests.proofs.loader.words_of_one_buffer.Goals as goal

pub loader_words-words-requires-clause-size : goal.loader_words-words-requires-clause-size
loader_words-words-requires-clause-size g c = (14, (omega arith, omega arith), refl)
