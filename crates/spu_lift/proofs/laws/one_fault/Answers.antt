use Rattle.spu_lift.proofs.OneFault.{one_fault}
use Rattle.spu_lift.proofs.laws.one_fault.Goals as goal

pub returns : goal.returns
returns c = one_fault
