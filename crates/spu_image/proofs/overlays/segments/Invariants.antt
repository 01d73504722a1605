use Rattle.std.proofs.Common.{◌≡◌, ◌∷◌}
use Rattle.spu_image.specs.OverlayFilling.{region_segments}
use Rattle.spu_image.proofs.OverlayImages.{loaded}
use Rattle.spu_image.proofs.overlays.segments.Given as goal

abbrev pub invariant-loop-bytes : goal.invariant-loop-bytes
invariant-loop-bytes l =
    (goal.iterator-loop-bytes).can_next l.bytes-iterator ×
    (goal.iterator-loop-bytes).is_finite l.bytes-iterator ×
    (l.all ≡ loaded l.fn.root ∷ region_segments l.buffers l.plan 0 l.yielded)
