use Rattle.spu_ideal.proofs.Stepped.{steps_run}
use Rattle.spu_ideal.proofs.stepping.steps_are_the_run.Goals as goal

pub returns : goal.returns
returns c = steps_run
