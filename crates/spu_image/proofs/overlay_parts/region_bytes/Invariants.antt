use Rattle.spu_image.specs.OverlayFilling.{AreRegionBytes}
use Rattle.spu_image.proofs.overlay_parts.region_bytes.Given as goal

abbrev pub invariant-loop-k : goal.invariant-loop-k
invariant-loop-k l = AreRegionBytes l.plan l.sections l.k l.regions.items
