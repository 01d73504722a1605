use Rattle.spu_loader.proofs.Again.{ready_again}
use Rattle.spu_loader.proofs.laws.ready_again.Goals as goal

pub returns : goal.returns
returns c = ready_again
