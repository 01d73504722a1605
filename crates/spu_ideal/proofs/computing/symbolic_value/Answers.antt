use Rattle.std.proofs.Common.{arith}
use Rattle.spu_ideal.specs.Results.{symbolic_byte}
use Rattle.spu_ideal.proofs.Listed.{filled}
use Rattle.spu_ideal.proofs.computing.symbolic_value.Goals as goal

pub returns : goal.returns
returns c =
    filled (symbolic_byte c.args.i.now c.args.a.now c.args.b.now c.args.c.now c.args.t.now) c.loop-k.out c.loop-k.invariant.len (λ k below. c.loop-k.invariant.same k (omega (arith, c.loop-k.auto.k-end, c.loop-k-test.false)))
