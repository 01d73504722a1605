use Rattle.spu_layout.proofs.Flats.{flat_is_laid, flat_is_flat}
use Rattle.spu_layout.proofs.laws.flat_layouts_are_laid.Goals as goal

pub returns-clause-laid : goal.returns-clause-laid
returns-clause-laid c p plan limit well fits = flat_is_laid p plan limit well fits

pub returns-clause-flat : goal.returns-clause-flat
returns-clause-flat c p plan limit fits = flat_is_flat p plan limit fits
