use Rattle.spu_loader.proofs.Hopping.{settled}
use Rattle.spu_loader.proofs.laws.settles.Goals as goal

pub returns : goal.returns
returns c = settled
