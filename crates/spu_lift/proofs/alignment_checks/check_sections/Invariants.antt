use Rattle.spu_lift.specs.LiftFaults.{IsMisalignedSection}
use Rattle.spu_lift.specs.Checks.{IsNoneBelow}
use Rattle.spu_lift.proofs.alignment_checks.check_sections.Given as goal

abbrev pub invariant-loop-section : goal.invariant-loop-section
invariant-loop-section l = IsNoneBelow (λ i y. IsMisalignedSection y) l.o.sections l.section-index
