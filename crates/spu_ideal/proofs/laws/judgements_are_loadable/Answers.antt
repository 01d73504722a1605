use Rattle.spu_ideal.proofs.Begun.{judged_loadable}
use Rattle.spu_ideal.proofs.laws.judgements_are_loadable.Goals as goal

pub returns : goal.returns
returns c = judged_loadable
