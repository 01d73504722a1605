use Rattle.std.proofs.Common.{◌-◌, take, drop}
use Rattle.spu_layout.specs.Views.{layout_in}
use Rattle.spu_image.specs.Overlays.{stub_codes}
use Rattle.spu_image.specs.OverlayFilling.{Adds}
use Rattle.spu_image.proofs.overlay_parts.put_stubs.Given as goal

abbrev pub invariant-loop-f : goal.invariant-loop-f
invariant-loop-f l = Adds (stub_codes l.loader (layout_in l.layout) 1 (take (l.f - 1) (drop 1 l.p.functions))) l.fn.out l.out
