use Rattle.spu_image.proofs.Laid.{inside, start_there}
use Rattle.spu_image.proofs.images.flat_exec.Goals as goal

pub address-requires-clause-inside : goal.address-requires-clause-inside
address-requires-clause-inside c = inside c.args.p.now c.args.layout.now c.requires 0 0 (start_there c.args.p.now c.requires.well)
