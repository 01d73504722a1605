use Rattle.std.proofs.Common.{arith, refl}
use Rattle.spu_lift.specs.declared.program.Label.TheVariants.{Link}
use Rattle.spu_ideal.specs.Bytes.{are_parts}
use Rattle.spu_ideal.proofs.Listed.{parts_through}
use Rattle.spu_ideal.proofs.quads.are_link.Goals as goal

pub loop-j-init : goal.loop-j-init
unfolding are_parts
loop-j-init c = refl

pub returns : goal.returns
returns c = parts_through (Link c.args.f c.args.i) c.args.bytes.now c.loop-j.j c.loop-j.all (omega (arith, c.loop-j.auto.j-end, c.loop-j-test.false)) c.loop-j.invariant
