use Rattle.std.proofs.Common.{arith}
use Rattle.spu_exec.specs.Reads.{reads}
use Rattle.spu_ideal.proofs.Listed.{known_through}
use Rattle.spu_ideal.proofs.computing.are_known.Goals as goal

pub returns : goal.returns
returns c = known_through (reads c.args.op c.args.source c.args.k) c.args.quad.now c.loop-j.j c.loop-j.all (omega (arith, c.loop-j.auto.j-end, c.loop-j-test.false)) c.loop-j.invariant
