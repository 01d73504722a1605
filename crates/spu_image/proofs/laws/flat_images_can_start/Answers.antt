use Rattle.spu_image.proofs.FlatStarts.{can_start}
use Rattle.spu_image.proofs.laws.flat_images_can_start.Goals as goal

pub returns : goal.returns
returns c = can_start
