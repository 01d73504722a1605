use Rattle.std.proofs.Common.{◌≡◌, take}
use Rattle.spu_layout.specs.Placing.{section_sizes}
use Rattle.spu_layout.proofs.placing.section_sizes.Given as goal

abbrev pub invariant-loop-section : goal.invariant-loop-section
invariant-loop-section l = l.sizes ≡ section_sizes (take l.section-index l.code)
