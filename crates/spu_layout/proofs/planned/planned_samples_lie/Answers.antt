use Rattle.std.proofs.Common.{refl}
use Rattle.spu_layout.proofs.PlannedSamples.{sample_is_planned, pair_is_planned}
use Rattle.spu_layout.proofs.planned.planned_samples_lie.Goals as goal

pub returns-clause-sample : goal.returns-clause-sample
returns-clause-sample c = sample_is_planned

pub returns-clause-sample_begins : goal.returns-clause-sample_begins
returns-clause-sample_begins c = refl

pub returns-clause-sample_areas : goal.returns-clause-sample_areas
returns-clause-sample_areas c = refl

pub returns-clause-pair : goal.returns-clause-pair
returns-clause-pair c = pair_is_planned

pub returns-clause-pair_begins : goal.returns-clause-pair_begins
returns-clause-pair_begins c = refl

pub returns-clause-pair_entries : goal.returns-clause-pair_entries
returns-clause-pair_entries c = refl

pub returns-clause-pair_loader : goal.returns-clause-pair_loader
returns-clause-pair_loader c = (refl, refl, refl)

pub returns-clause-pair_areas : goal.returns-clause-pair_areas
returns-clause-pair_areas c = refl
