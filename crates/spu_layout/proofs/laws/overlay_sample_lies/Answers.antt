use Rattle.std.proofs.Common.{refl}
use Rattle.spu_layout.proofs.laws.overlay_sample_lies.Goals as goal

pub returns-clause-begins : goal.returns-clause-begins
returns-clause-begins c = refl

pub returns-clause-regions : goal.returns-clause-regions
returns-clause-regions c = refl

pub returns-clause-stubs : goal.returns-clause-stubs
returns-clause-stubs c = refl

pub returns-clause-returns : goal.returns-clause-returns
returns-clause-returns c = refl

pub returns-clause-passage : goal.returns-clause-passage
returns-clause-passage c = refl

pub returns-clause-slots : goal.returns-clause-slots
returns-clause-slots c = refl

pub returns-clause-areas : goal.returns-clause-areas
returns-clause-areas c = refl
