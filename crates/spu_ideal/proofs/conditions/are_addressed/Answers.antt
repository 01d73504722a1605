use Rattle.std.proofs.Common.{arith, ap, ◌∙◌, refl, true}
use Rattle.std.specs.Prelude.{if◌then◌else◌}
use Rattle.spu_ideal.specs.Bytes.{is_number}
use Rattle.spu_exec.specs.Tested.{addressed}
use Rattle.spu_ideal.specs.Quads.{quad_bytes}
use Rattle.spu_ideal.specs.Results.{are_known}
use Rattle.spu_ideal.proofs.TestedBytes.{next_read, addressed_through}
use Rattle.spu_ideal.proofs.conditions.are_addressed.Goals as goal

pub loop-j-preserved : goal.loop-j-preserved
loop-j-preserved c =
    c.both-all.ensures ∙ next_read (addressed c.args.op c.args.source) c.args.quad.now c.loop-j.j c.is_addressed.result c.is_known.result c.loop-j.all c.loop-j-test.true c.loop-j.invariant c.is_addressed.ensures (c.is_known.ensures ∙ ap (λ s. if c.is_addressed.result then is_number s else true) c.byte.ensures)

pub returns : goal.returns
returns c = addressed_through c.args.op c.args.source (quad_bytes c.args.quad.now) c.loop-j.j c.loop-j.all (omega (arith, c.loop-j.auto.j-end, c.loop-j-test.false)) c.loop-j.invariant

pub loop-j-init : goal.loop-j-init
unfolding are_known
loop-j-init c = refl
