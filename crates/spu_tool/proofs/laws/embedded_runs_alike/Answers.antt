use Rattle.spu_tool.proofs.Alike.{run_alike}
use Rattle.spu_tool.proofs.laws.embedded_runs_alike.Goals as goal

pub returns : goal.returns
returns c = run_alike
