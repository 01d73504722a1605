use Rattle.spu_image.proofs.FlatImages.{flat_headline}
use Rattle.spu_image.proofs.laws.flat_images_keep_the_promise.Goals as goal

pub returns : goal.returns
returns c = flat_headline
