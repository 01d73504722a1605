use Rattle.spu_loader.proofs.Missing.{loads_as_missed}
use Rattle.spu_loader.proofs.laws.loads_as_missed.Goals as goal

pub returns : goal.returns
returns c = loads_as_missed
