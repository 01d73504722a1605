use Rattle.std.specs.Prelude.{max}
use Rattle.spu_layout.specs.Views.{layout_in}
use Rattle.spu_image.specs.Filling.{AreFilled}
use Rattle.spu_image.proofs.segments.section_words.Given as goal

abbrev pub invariant-loop-f : goal.invariant-loop-f
invariant-loop-f l = AreFilled l.p (layout_in l.layout) (max 1 l.f) 0 l.sections.items
