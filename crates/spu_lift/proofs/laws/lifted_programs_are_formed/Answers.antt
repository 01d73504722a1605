use Rattle.spu_lift.proofs.LiftedFormed.{lifted_formed}
use Rattle.spu_lift.proofs.laws.lifted_programs_are_formed.Goals as goal

pub returns : goal.returns
returns c = lifted_formed
