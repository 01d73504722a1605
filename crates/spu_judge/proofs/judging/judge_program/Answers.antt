use Rattle.std.proofs.Common.{arith}
use Rattle.std.proofs.lemmas.Result.{err_from_is_err_and}
use Rattle.spu_frame.specs.Found.{frame_at}
use Rattle.spu_graph.specs.Known.{need_of}
use Rattle.spu_judge.proofs.Promised.{over_limit, handed_on}
use Rattle.spu_judge.proofs.judging.judge_program.Goals as goal

pub returns-in_err-depths-clause-refused : goal.returns-in_err-depths-clause-refused
returns-in_err-depths-clause-refused c =
    let same = err_from_is_err_and c.from_residual.result c.from_residual.ensures.1 in
    handed_on c.args.prog c.args.limit _ c.in_err-depths.field-0.0 same.0 same.1 same.2 (c.in_err-depths.ensures.refused c.args.limit)

pub returns-in_err-needs-clause-refused : goal.returns-in_err-needs-clause-refused
returns-in_err-needs-clause-refused c =
    let same = err_from_is_err_and c.from_residual-in_err-needs.result c.from_residual-in_err-needs.ensures.1 in
    handed_on c.args.prog c.args.limit _ c.in_err-needs.field-0.0 same.0 same.1 same.2 (c.in_err-needs.ensures.refused c.args.limit)

pub returns-then-need-from-clause-refused : goal.returns-then-need-from-clause-refused
returns-then-need-from-clause-refused c =
    over_limit c.args.prog _ (frame_at c.in_ok-depths.depths) (need_of c.in_ok-needs.needs) c.entry_need-need.result c.args.limit c.in_ok-depths.ensures.depths c.in_ok-needs.ensures.needs
    c.in_ok-needs.ensures.acyclic c.entry_need-need.ensures (omega arith)
