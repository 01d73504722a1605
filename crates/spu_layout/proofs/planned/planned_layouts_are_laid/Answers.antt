use Rattle.spu_layout.proofs.Overlaid.{planned_is_laid}
use Rattle.spu_layout.proofs.planned.planned_layouts_are_laid.Goals as goal

pub returns : goal.returns
returns c p plan limit well planned = planned_is_laid p plan limit well planned
