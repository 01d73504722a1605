use Rattle.spu_ideal.proofs.Runs.{run_keeps}
use Rattle.spu_ideal.proofs.laws.run_stays_of_program.Goals as goal

pub returns : goal.returns
returns c = run_keeps
