use Rattle.std.proofs.Common.{◌≡◌, take}
use Rattle.spu_image.specs.Filling.{empty_sections}
use Rattle.spu_image.proofs.segments.empty_sections.Given as goal

abbrev pub invariant-loop-section : goal.invariant-loop-section
invariant-loop-section l = l.all.items ≡ empty_sections (take l.section-index l.sections)
