use Rattle.std.proofs.Common.{◌≡◌, drop}
use Rattle.spu_layout.specs.Views.{layout_in}
use Rattle.spu_image.specs.Filling.{labelled_bytes}
use Rattle.spu_image.proofs.parts.part_bytes.Given as goal

abbrev pub invariant-loop-i : goal.invariant-loop-i
invariant-loop-i l = l.bytes ≡ labelled_bytes (layout_in l.layout) l.part (drop l.i l.labels)
