use Rattle.std.proofs.Common.{◌≡◌, ◌++◌, take}
use Rattle.std.specs.List.{flat_map}
use Rattle.spu_image.specs.Images.{bytes_of_words}
use Rattle.spu_image.proofs.segments.put_sections.Given as goal

abbrev pub invariant-loop-words : goal.invariant-loop-words
invariant-loop-words l = l.out ≡ l.fn.out ++ flat_map bytes_of_words (take l.words-index l.sections)
