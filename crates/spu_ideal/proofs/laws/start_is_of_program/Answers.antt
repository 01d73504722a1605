use Rattle.spu_ideal.proofs.Runs.{start_of_formed}
use Rattle.spu_ideal.proofs.laws.start_is_of_program.Goals as goal

pub returns : goal.returns
returns c = start_of_formed
