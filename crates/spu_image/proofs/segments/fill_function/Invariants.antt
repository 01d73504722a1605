use Rattle.spu_layout.specs.Views.{layout_in}
use Rattle.spu_image.specs.Filling.{AreFilled}
use Rattle.spu_image.proofs.segments.fill_function.Given as goal

abbrev pub invariant-loop-i : goal.invariant-loop-i
invariant-loop-i l = AreFilled l.p (layout_in l.layout) l.f l.i l.sections
