use Rattle.std.proofs.Common.{◌≡◌, ◌++◌, take}
use Rattle.spu_image.specs.Images.{bytes_of_words}
use Rattle.spu_image.proofs.segments.put_words.Given as goal

abbrev pub invariant-loop-word : goal.invariant-loop-word
invariant-loop-word l = l.out ≡ l.fn.out ++ bytes_of_words (take l.word-index l.words)
