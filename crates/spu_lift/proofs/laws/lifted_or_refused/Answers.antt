use Rattle.spu_lift.proofs.ProgramThere.{lifted_or_faulty}
use Rattle.spu_lift.proofs.laws.lifted_or_refused.Goals as goal

pub returns : goal.returns
returns c = lifted_or_faulty
