use Rattle.spu_ideal.proofs.Promises.{high}
use Rattle.spu_ideal.proofs.laws.run_is_high.Goals as goal

pub returns : goal.returns
returns c = high
