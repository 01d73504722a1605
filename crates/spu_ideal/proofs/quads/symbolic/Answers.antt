use Rattle.std.proofs.Common.{arith, get_or}
use Rattle.spu_lift.specs.declared.symbolic.SymByte.TheVariants.{Num}
use Rattle.spu_ideal.proofs.Listed.{filled}
use Rattle.spu_ideal.proofs.quads.symbolic.Goals as goal

pub returns : goal.returns
returns c = filled (λ k. Num (get_or c.args.quad.now.0 k 0)) c.loop-k.bytes c.loop-k.invariant.len (λ k below. c.loop-k.invariant.same k (omega (arith, c.loop-k.auto.k-end, c.loop-k-test.false)))
