use Rattle.std.proofs.Common.{◌≡◌, []}
use Rattle.std.specs.Prelude.{replicate}
use Rattle.spu_image.proofs.overlay_parts.empty_regions.Given as goal

abbrev pub invariant-loop : goal.invariant-loop
invariant-loop l = l.regions.items ≡ replicate l.counter []
