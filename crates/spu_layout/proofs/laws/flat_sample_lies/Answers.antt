use Rattle.std.proofs.Common.{refl}
use Rattle.spu_layout.proofs.laws.flat_sample_lies.Goals as goal

pub returns-clause-begins : goal.returns-clause-begins
returns-clause-begins c = refl

pub returns-clause-places : goal.returns-clause-places
returns-clause-places c = refl

pub returns-clause-areas : goal.returns-clause-areas
returns-clause-areas c = refl
