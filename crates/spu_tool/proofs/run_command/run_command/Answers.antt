use Rattle.spu_tool.proofs.Loads.{ran_if}
use Rattle.spu_tool.proofs.run_command.run_command.Goals as goal

pub returns-in-Ok : goal.returns-in-Ok
returns-in-Ok c =
    ran_if c.args.options c.args.name.now c.args.bytes.now c.args.files.now c.in-Ok.exec c.in_ok-inputs.inputs c.exec_run.result c.in-Ok.ensures.checks c.in-Ok.ensures.value
    c.in_ok-inputs.ensures c.exec_run.ensures
