use Rattle.std.proofs.Common.{sym, ◌∙◌}
use Rattle.std.proofs.lemmas.Bool.{false≢true}
use Rattle.spu_lift.specs.LiftFaults.{IsMisalignedSection}
use Rattle.spu_lift.proofs.FirstPlaces.{none_at_all, none_yet}
use Rattle.spu_lift.proofs.alignment_checks.check_sections.Goals as goal

pub loop-section-preserved : goal.loop-section-preserved
loop-section-preserved c =
    let is = rw c.as_slice-section-items.ensures at c.section-item.is in
    let within = rw c.as_slice-section-items.ensures at c.loop-section-test.true in
    none_yet (λ i y. IsMisalignedSection y) c.args.o.now.sections c.loop-section.section-index c.section-item.result within is
    (λ bad. absurd (false≢true (sym c.if-is_misaligned_section.false ∙ c.is_misaligned_section.ensures.1 bad))) c.loop-section.invariant

pub returns-clause-ok : goal.returns-clause-ok
returns-clause-ok c =
    let all = rw c.as_slice-section-items.ensures at c.loop-section-test.false in
    none_at_all (λ i y. IsMisalignedSection y) c.args.o.now.sections c.loop-section.section-index all c.loop-section.invariant
