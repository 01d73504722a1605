use Rattle.spu_ideal.proofs.Runs.{run_high}
use Rattle.spu_ideal.proofs.laws.stack_pointer_stays_high.Goals as goal

pub returns : goal.returns
returns c = run_high
