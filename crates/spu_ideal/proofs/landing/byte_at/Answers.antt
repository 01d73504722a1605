use Rattle.std.proofs.Common.{◌∙◌, [], arith}
use Rattle.spu_ideal.specs.declared.quads.SymQuad.TheVariants.{Numbers}
use Rattle.spu_ideal.proofs.Going.{stored_byte}
use Rattle.spu_ideal.proofs.landing.byte_at.Goals as goal

pub returns : goal.returns
returns c = c.byte.ensures ∙ stored_byte c.args.store.now c.args.at (Numbers (record { 0 = [] })) (omega arith)
