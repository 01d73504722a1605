use Rattle.std.proofs.Common.{sym, ◌∙◌}
use Rattle.std.proofs.lemmas.Bool.{false≢true}
use Rattle.spu_lift.specs.Checks.{IsMisalignedEar}
use Rattle.spu_lift.proofs.FirstPlaces.{none_at_all, none_yet}
use Rattle.spu_lift.proofs.alignment_checks.check_ears.Goals as goal
use Rattle.spu_lift.proofs.alignment_checks.check_ears.Goals.{then-is_misaligned_ear+in_ok-symbol_fault, else-is_misaligned_ear}

pub loop-symbol-preserved : goal.loop-symbol-preserved
loop-symbol-preserved c =
    let is = rw c.as_slice-symbol-items.ensures at c.symbol-item.is in
    let within = rw c.as_slice-symbol-items.ensures at c.loop-symbol-test.true in
    let tells = rw c.as_slice-sections.ensures at c.is_misaligned_ear.ensures in
    let good : IsMisalignedEar c.args.o.now.sections c.symbol-item.result → ⊥ = λ bad. elim c.if-is_misaligned_ear.branch [
      | then-is_misaligned_ear+in_ok-symbol_fault w ↦ absurd w.in_ok-symbol_fault.ensures
      | else-is_misaligned_ear w ↦ absurd (false≢true (sym w.if-is_misaligned_ear.false ∙ tells.1 bad))
    ] in
    none_yet (λ i y. IsMisalignedEar c.args.o.now.sections y) c.args.o.now.symbols c.loop-symbol.symbol-index c.symbol-item.result within is good c.loop-symbol.invariant

pub returns-clause-ok : goal.returns-clause-ok
returns-clause-ok c =
    let all = rw c.as_slice-symbol-items.ensures at c.loop-symbol-test.false in
    none_at_all (λ i y. IsMisalignedEar c.args.o.now.sections y) c.args.o.now.symbols c.loop-symbol.symbol-index all c.loop-symbol.invariant
