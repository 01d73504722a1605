use Rattle.std.proofs.Common.{◌∙◌, sym}
use Rattle.spu_elf.proofs.ExecutableLoops.{gaps_from, failed}
use Rattle.spu_elf.proofs.reading.program_headers.check_gaps.Goals as goal

pub returns-in_err-check_gap : goal.returns-in_err-check_gap
returns-in_err-check_gap c =
    let step = gaps_from c.args.bytes.now c.args.loads.now c.loop-l.l-index c.loop-l.at (record { address = 0; size = 0 }) c.loop-l-test.true in
    failed c.from_residual.result c.in_err-check_gap.field-0.0 _ _ _ c.from_residual.ensures c.in_err-check_gap.ensures (sym step ∙ c.loop-l.invariant.checks)
