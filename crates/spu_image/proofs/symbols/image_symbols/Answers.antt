use Rattle.spu_image.proofs.Laid.{data_low}
use Rattle.spu_image.proofs.symbols.image_symbols.Goals as goal

pub put_data_symbols-requires-clause-low : goal.put_data_symbols-requires-clause-low
put_data_symbols-requires-clause-low c = data_low c.args.p.now c.args.layout.now c.requires
