use Rattle.std.proofs.Common.{take}
use Rattle.spu_layout.specs.Views.{layout_in}
use Rattle.spu_image.specs.Images.{AreWords}
use Rattle.spu_image.proofs.words.function_words.Given as goal

abbrev pub invariant-loop-i : goal.invariant-loop-i
invariant-loop-i l = AreWords (layout_in l.layout) l.f 0 (take l.i l.code) l.words
