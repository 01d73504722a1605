use Rattle.std.proofs.Common.{drop}
use Rattle.spu_layout.specs.Views.{layout_in}
use Rattle.spu_image.specs.Filling.{AreDataTo}
use Rattle.spu_image.proofs.parts.data_bytes.Given as goal

abbrev pub invariant-loop-part : goal.invariant-loop-part
invariant-loop-part l = AreDataTo l.p (layout_in l.layout) (drop l.part-index l.part-items) l.bytes
