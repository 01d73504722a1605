use Rattle.std.proofs.Common.{[], arith}
use Rattle.spu_ideal.specs.declared.quads.SymQuad.TheVariants.{Numbers}
use Rattle.spu_ideal.proofs.Going.{quad_loaded}
use Rattle.spu_ideal.proofs.reaching.quad_at.Goals as goal

pub returns : goal.returns
returns c = quad_loaded c.args.store.now c.args.at (Numbers (record { 0 = [] })) c.requires.address.0 (let h = c.requires.address.1 in omega (arith, h))
