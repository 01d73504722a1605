use Rattle.spu_lift.proofs.OneProgram.{one_program}
use Rattle.spu_lift.proofs.laws.one_program.Goals as goal

pub returns : goal.returns
returns c = one_program
