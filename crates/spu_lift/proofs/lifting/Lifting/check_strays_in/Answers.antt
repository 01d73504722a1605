use Rattle.std.proofs.lemmas.Result.{err_from_is_err_and}
use Rattle.spu_lift.specs.Checks.{within}
use Rattle.spu_lift.proofs.CoverPasses.{ShowsStrays, sections_passed}
use Rattle.spu_lift.proofs.FirstPlaces.{answer_climbs, one_more}
use Rattle.spu_lift.proofs.lifting.Lifting.check_strays_in.Goals as goal

pub returns-in_err-check_strays_within-clause-err : goal.returns-in_err-check_strays_within-clause-err
returns-in_err-check_strays_within-clause-err c =
    let p = err_from_is_err_and c.from_residual.result c.from_residual.ensures.1 in
    rw (p.1, p.2) (answer_climbs (within c.args.object (ShowsStrays c.args.self.now.tables.objects.now)) c.loop-section.section c.in_err-check_strays_within.field-0.0 c.loop-section.invariant c.in_err-check_strays_within.ensures.err)

pub loop-section-preserved : goal.loop-section-preserved
loop-section-preserved c = one_more (within c.args.object (ShowsStrays c.args.self.now.tables.objects.now)) c.loop-section.section c.loop-section.invariant c.in_ok-check_strays_within.ensures.ok

pub returns-clause-ok : goal.returns-clause-ok
returns-clause-ok c =
    let all = rw c.as_slice-s-items.ensures at c.loop-section-test.false in
    sections_passed c.args.self.now.tables.objects.now c.args.object c.loop-section.section c.args.o.now c.requires.there all c.loop-section.invariant
