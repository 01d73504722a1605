use Rattle.std.proofs.lemmas.Option.{slice_get-get_or}
use Rattle.spu_lift.proofs.CoverPasses.{last_words, one_passed, stray_between}
use Rattle.spu_lift.proofs.WordPasses.{zero_function}
use Rattle.spu_lift.proofs.cover_checks.first_stray.Goals as goal

pub loop-f-preserved : goal.loop-f-preserved
loop-f-preserved c =
    one_passed c.args.bytes.now c.args.functions.now c.loop-f.f-index c.loop-f.covered c.max-covered.result _ c.requires.laid c.loop-f.invariant
    (slice_get-get_or c.args.functions.now c.loop-f.f-index zero_function c.loop-f-test.true) c.in_default.ensures c.max-covered.ensures

pub returns-in-Some : goal.returns-in-Some
returns-in-Some c =
    stray_between c.args.bytes.now c.args.functions.now c.loop-f.f-index c.loop-f.covered c.in-Some.i _ c.requires.laid c.loop-f.invariant (slice_get-get_or c.args.functions.now c.loop-f.f-index zero_function c.loop-f-test.true)
    c.in-Some.ensures

pub returns : goal.returns
returns c = last_words c.args.bytes.now c.args.functions.now c.loop-f.f-index c.loop-f.covered c.first_stray_between-2.result c.loop-f-test.false c.loop-f.invariant c.first_stray_between-2.ensures
