use Rattle.std.proofs.Common.{[]}
use Rattle.std.proofs.lemmas.Result.{err_from_is_err_and}
use Rattle.spu_lift.specs.declared.fault.LiftKind.TheVariants.{CodeOutsideFunction, DuplicateSymbol, FunctionOverlap, Misaligned, NoEntry, ReservedName, UndefinedSymbol}
use Rattle.spu_lift.proofs.CheckOrder.{absent_to_2, absent_to_3, absent_to_4, absent_to_5, absent_to_6, absent_to_7, absent_to_8, all_absent, none_absent, refused, refused_behind}
use Rattle.spu_lift.proofs.NumberedFunctions.{have_places}
use Rattle.spu_lift.proofs.lifting.Lifting.check.Goals as goal

pub returns-in_err-check_duplicates-clause-err : goal.returns-in_err-check_duplicates-clause-err
returns-in_err-check_duplicates-clause-err c =
    let os = c.args.self.now.tables.objects.now in
    let entry = c.args.entry.now in
    let p = err_from_is_err_and c.from_residual.result c.from_residual.ensures.1 in
    rw (p.1, p.2) (refused DuplicateSymbol os entry c.in_err-check_duplicates.field-0.0 (none_absent 1 os entry) c.in_err-check_duplicates.ensures.err)

pub returns-in_err-check_undefined-clause-err : goal.returns-in_err-check_undefined-clause-err
returns-in_err-check_undefined-clause-err c =
    let os = c.args.self.now.tables.objects.now in
    let entry = c.args.entry.now in
    let p = err_from_is_err_and c.from_residual-in_err-check_undefined.result c.from_residual-in_err-check_undefined.ensures.1 in
    rw (p.1, p.2) (refused UndefinedSymbol os entry c.in_err-check_undefined.field-0.0 (absent_to_2 os entry c.in_ok-check_duplicates.ensures.ok) c.in_err-check_undefined.ensures.err)

pub returns-in_err-check_reserved-clause-err : goal.returns-in_err-check_reserved-clause-err
returns-in_err-check_reserved-clause-err c =
    let os = c.args.self.now.tables.objects.now in
    let entry = c.args.entry.now in
    let p = err_from_is_err_and c.from_residual-in_err-check_reserved.result c.from_residual-in_err-check_reserved.ensures.1 in
    rw (p.1, p.2) (refused ReservedName os entry c.in_err-check_reserved.field-0.0 (absent_to_3 os entry c.in_ok-check_duplicates.ensures.ok c.in_ok-check_undefined.ensures.ok) c.in_err-check_reserved.ensures.err)

pub returns-in_err-start-clause-err : goal.returns-in_err-start-clause-err
returns-in_err-start-clause-err c =
    let os = c.args.self.now.tables.objects.now in
    let entry = c.args.entry.now in
    let p = err_from_is_err_and c.from_residual-in_err-start.result c.from_residual-in_err-start.ensures.1 in
    rw (p.1, p.2) (refused NoEntry os entry c.in_err-start.field-0.0 (absent_to_4 os entry c.in_ok-check_duplicates.ensures.ok c.in_ok-check_undefined.ensures.ok c.in_ok-check_reserved.ensures.ok) c.in_err-start.ensures.err)

pub returns-in_err-check_alignment-clause-err : goal.returns-in_err-check_alignment-clause-err
returns-in_err-check_alignment-clause-err c =
    let os = c.args.self.now.tables.objects.now in
    let entry = c.args.entry.now in
    let p = err_from_is_err_and c.from_residual-in_err-check_alignment.result c.from_residual-in_err-check_alignment.ensures.1 in
    rw (p.1, p.2) (refused Misaligned os entry c.in_err-check_alignment.field-0.0 (absent_to_5 os entry (absent_to_4 os entry c.in_ok-check_duplicates.ensures.ok c.in_ok-check_undefined.ensures.ok c.in_ok-check_reserved.ensures.ok) c.in_ok-start.ensures.none) c.in_err-check_alignment.ensures.err)

pub returns-in_err-check_strays-clause-err : goal.returns-in_err-check_strays-clause-err
returns-in_err-check_strays-clause-err c =
    let os = c.args.self.now.tables.objects.now in
    let entry = c.args.entry.now in
    let p = err_from_is_err_and c.from_residual-in_err-check_strays.result c.from_residual-in_err-check_strays.ensures.1 in
    rw (p.1, p.2) (refused CodeOutsideFunction os entry c.in_err-check_strays.field-0.0 (absent_to_6 os entry (absent_to_5 os entry (absent_to_4 os entry c.in_ok-check_duplicates.ensures.ok c.in_ok-check_undefined.ensures.ok c.in_ok-check_reserved.ensures.ok) c.in_ok-start.ensures.none) c.in_ok-check_alignment.ensures.ok) c.in_err-check_strays.ensures.err)

pub returns-in_err-check_overlaps-clause-err : goal.returns-in_err-check_overlaps-clause-err
returns-in_err-check_overlaps-clause-err c =
    let os = c.args.self.now.tables.objects.now in
    let entry = c.args.entry.now in
    let p = err_from_is_err_and c.from_residual-in_err-check_overlaps.result c.from_residual-in_err-check_overlaps.ensures.1 in
    rw (p.1, p.2) (refused FunctionOverlap os entry c.in_err-check_overlaps.field-0.0 (absent_to_7 os entry (absent_to_6 os entry (absent_to_5 os entry (absent_to_4 os entry c.in_ok-check_duplicates.ensures.ok c.in_ok-check_undefined.ensures.ok c.in_ok-check_reserved.ensures.ok) c.in_ok-start.ensures.none) c.in_ok-check_alignment.ensures.ok) c.in_ok-check_strays.ensures.ok) c.in_err-check_overlaps.ensures.err)

pub check_code-requires-clause-places : goal.check_code-requires-clause-places
check_code-requires-clause-places c =
    have_places c.args.self.now.tables.objects.now ([]) c.args.self.now.functions.sorted.items c.requires.tables.formed c.requires.functions c.in_ok-check_alignment.ensures.ok c.in_ok-check_overlaps.ensures.ok

pub returns-in_err-check_code-clause-err : goal.returns-in_err-check_code-clause-err
returns-in_err-check_code-clause-err c =
    let os = c.args.self.now.tables.objects.now in
    let entry = c.args.entry.now in
    let p = err_from_is_err_and c.from_residual-in_err-check_code.result c.from_residual-in_err-check_code.ensures.1 in
    rw (p.1, p.2) (refused_behind os entry c.in_err-check_code.field-0.0 (absent_to_8 os entry (absent_to_7 os entry (absent_to_6 os entry (absent_to_5 os entry (absent_to_4 os entry c.in_ok-check_duplicates.ensures.ok c.in_ok-check_undefined.ensures.ok c.in_ok-check_reserved.ensures.ok) c.in_ok-start.ensures.none) c.in_ok-check_alignment.ensures.ok) c.in_ok-check_strays.ensures.ok) c.in_ok-check_overlaps.ensures.ok) c.in_err-check_code.ensures.err)

pub returns-clause-ok : goal.returns-clause-ok
returns-clause-ok c =
    let os = c.args.self.now.tables.objects.now in
    let entry = c.args.entry.now in
    all_absent os entry (absent_to_8 os entry (absent_to_7 os entry (absent_to_6 os entry (absent_to_5 os entry (absent_to_4 os entry c.in_ok-check_duplicates.ensures.ok c.in_ok-check_undefined.ensures.ok c.in_ok-check_reserved.ensures.ok) c.in_ok-start.ensures.none) c.in_ok-check_alignment.ensures.ok) c.in_ok-check_strays.ensures.ok) c.in_ok-check_overlaps.ensures.ok) c.in_ok-check_code.ensures.ok

pub returns-clause-places : goal.returns-clause-places
returns-clause-places c =
    have_places c.args.self.now.tables.objects.now ([]) c.args.self.now.functions.sorted.items c.requires.tables.formed c.requires.functions c.in_ok-check_alignment.ensures.ok c.in_ok-check_overlaps.ensures.ok
