use Rattle.std.proofs.Common.{◌≡◌, ap, arith, ◌∙◌}
use Rattle.spu_frame.specs.Found.{frame_at}
use Rattle.spu_ideal.specs.Loading.{load_fault}
use Rattle.spu_ideal.specs.Machine.{start}
use Rattle.spu_ideal.specs.State.{Sym}
use Rattle.spu_ideal.specs.View.{state_of, steps}
use Rattle.spu_tool.specs.Makes.{RunsSymbolically}
use Rattle.spu_tool.proofs.Checks.{runs_if}
use Rattle.spu_tool.proofs.Loads.{refused_if}
use Rattle.spu_tool.proofs.check_command.judged_run.Goals as goal

pub run-end-requires-clause-count : goal.run-end-requires-clause-count
unfolding start
run-end-requires-clause-count c =
    let fresh : (state_of c.in-Ok.ideal).steps ≡ 0 = ap (λ (s : Sym). s.steps) c.in-Ok.ensures.start.1 in
    let budget = c.from.ensures in
    let fits = c.ranges.steps.fits in
    omega (arith, fresh, budget, fits)

pub returns-in-Ok : goal.returns-in-Ok
returns-in-Ok c =
    runs_if c.args.judged.now c.args.limit c.args.inputs.now c.args.steps (state_of c.in-Ok.ideal) _ c.run-end.result c.ran.result c.in-Ok.ensures.start.0 c.in-Ok.ensures.start.1
    (c.run-end.ensures.state ∙ ap (λ n. steps c.args.judged.now.prog (frame_at c.args.judged.now.depths) n (state_of c.in-Ok.ideal)) c.from.ensures) c.run-end.ensures.end c.ran.ensures

pub returns-in-Err : goal.returns-in-Err
returns-in-Err c =
    refused_if (RunsSymbolically c.args.judged.now c.args.limit c.args.inputs.now c.args.steps) (load_fault c.args.judged.now.prog c.args.inputs.now) c.in-Err.fault c.load_refusal.result c.in-Err.ensures.fault
    c.load_refusal.ensures.line c.load_refusal.ensures.told
