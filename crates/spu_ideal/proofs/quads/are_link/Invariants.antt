use Rattle.std.proofs.Common.{◌≡◌}
use Rattle.spu_lift.specs.declared.program.Label.TheVariants.{Link}
use Rattle.spu_ideal.specs.Bytes.{are_parts}
use Rattle.spu_ideal.proofs.quads.are_link.Given as goal

abbrev pub invariant-loop-j : goal.invariant-loop-j
invariant-loop-j l = l.all ≡ are_parts (Link l.f l.i) l.bytes l.j
