use Rattle.std.proofs.lemmas.Result.{err_from_is_err_and}
use Rattle.spu_lift.specs.Checks.{ShowsSymbol}
use Rattle.spu_lift.proofs.FirstPlaces.{answer_climbs, one_more}
use Rattle.spu_lift.proofs.SymbolPasses.{objects_passed}
use Rattle.spu_lift.proofs.tables.Tables.check_symbols.Goals as goal

pub returns-in_err-check_symbols_in-clause-err : goal.returns-in_err-check_symbols_in-clause-err
returns-in_err-check_symbols_in-clause-err c =
    let p = err_from_is_err_and c.from_residual.result c.from_residual.ensures.1 in
    rw (p.1, p.2) (answer_climbs (ShowsSymbol c.args.check c.args.self.now.objects.now) c.loop-object.object c.in_err-check_symbols_in.field-0.0 c.loop-object.invariant c.in_err-check_symbols_in.ensures.err)

pub loop-object-preserved : goal.loop-object-preserved
loop-object-preserved c = one_more (ShowsSymbol c.args.check c.args.self.now.objects.now) c.loop-object.object c.loop-object.invariant c.in_ok-check_symbols_in.ensures.ok

pub returns-clause-ok : goal.returns-clause-ok
returns-clause-ok c = objects_passed c.args.check c.args.self.now.objects.now c.loop-object.object c.loop-object-test.false c.loop-object.invariant
