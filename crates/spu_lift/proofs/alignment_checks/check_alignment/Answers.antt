use Rattle.std.proofs.Common.{[], length, refl}
use Rattle.std.proofs.lemmas.Option.{slice_get_read}
use Rattle.std.proofs.lemmas.Result.{err_from_is_err_and}
use Rattle.spu_lift.specs.declared.fault.LiftKind.TheVariants.{Misaligned}
use Rattle.spu_lift.specs.LiftFaults.{Shows}
use Rattle.spu_lift.proofs.FirstPlaces.{answer_climbs, one_more}
use Rattle.spu_lift.proofs.AlignmentLemmas.{all_aligned, ear_told, function_told, object_aligned, section_told}
use Rattle.spu_lift.proofs.alignment_checks.check_alignment.Goals as goal

pub returns-in_err-check_sections-clause-err : goal.returns-in_err-check_sections-clause-err
returns-in_err-check_sections-clause-err c =
    let os = c.args.objects.now in
    let n = c.loop-object.object in
    let there = slice_get_read os (length os) n c.index-objects-object.result refl c.loop-object-test.true c.index-objects-object.is in
    let told = c.in_err-check_sections.field-0.0 in
    let p = err_from_is_err_and c.from_residual.result c.from_residual.ensures.1 in
    rw (p.1, p.2) (answer_climbs (Shows Misaligned os ([])) n told c.loop-object.invariant (section_told os n c.index-objects-object.result told there c.in_err-check_sections.ensures.err))

pub returns-in_err-check_functions-clause-err : goal.returns-in_err-check_functions-clause-err
returns-in_err-check_functions-clause-err c =
    let os = c.args.objects.now in
    let n = c.loop-object.object in
    let there = slice_get_read os (length os) n c.index-objects-object.result refl c.loop-object-test.true c.index-objects-object.is in
    let told = c.in_err-check_functions.field-0.0 in
    let p = err_from_is_err_and c.from_residual-in_err-check_functions.result c.from_residual-in_err-check_functions.ensures.1 in
    rw (p.1, p.2) (answer_climbs (Shows Misaligned os ([])) n told c.loop-object.invariant
    (function_told os n c.index-objects-object.result told there c.in_ok-check_sections.ensures.ok c.in_err-check_functions.ensures.err))

pub returns-in_err-check_ears-clause-err : goal.returns-in_err-check_ears-clause-err
returns-in_err-check_ears-clause-err c =
    let os = c.args.objects.now in
    let n = c.loop-object.object in
    let there = slice_get_read os (length os) n c.index-objects-object.result refl c.loop-object-test.true c.index-objects-object.is in
    let told = c.in_err-check_ears.field-0.0 in
    let p = err_from_is_err_and c.from_residual-in_err-check_ears.result c.from_residual-in_err-check_ears.ensures.1 in
    rw (p.1, p.2) (answer_climbs (Shows Misaligned os ([])) n told c.loop-object.invariant
    (ear_told os n c.index-objects-object.result told there c.in_ok-check_sections.ensures.ok c.in_ok-check_functions.ensures.ok c.in_err-check_ears.ensures.err))

pub loop-object-preserved : goal.loop-object-preserved
loop-object-preserved c =
    let os = c.args.objects.now in
    let n = c.loop-object.object in
    let there = slice_get_read os (length os) n c.index-objects-object.result refl c.loop-object-test.true c.index-objects-object.is in
    one_more (Shows Misaligned os ([])) n c.loop-object.invariant
    (object_aligned os n c.index-objects-object.result there c.in_ok-check_sections.ensures.ok c.in_ok-check_functions.ensures.ok c.in_ok-check_ears.ensures.ok)

pub returns-clause-ok : goal.returns-clause-ok
returns-clause-ok c = all_aligned c.args.objects.now c.loop-object.object c.loop-object-test.false c.loop-object.invariant
