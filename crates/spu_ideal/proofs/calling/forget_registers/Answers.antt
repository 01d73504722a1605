use Rattle.std.proofs.Common.{arith, ap, sym, ◌∙◌}
use Rattle.spu_ideal.specs.Bytes.{unknown_quad}
use Rattle.spu_ideal.specs.State.{put}
use Rattle.spu_ideal.specs.View.{regs_of}
use Rattle.spu_ideal.proofs.Going.{forgotten_none, forgotten_more, forgotten_all}
use Rattle.spu_ideal.proofs.calling.forget_registers.Goals as goal

pub loop-r-init : goal.loop-r-init
loop-r-init c = sym (forgotten_none (regs_of c.args.regs.now) 75 (omega arith))

pub loop-r-preserved : goal.loop-r-preserved
loop-r-preserved c =
    c.forget_register.ensures.value ∙ ap (put c.loop-r.r unknown_quad) c.loop-r.invariant ∙ forgotten_more (regs_of c.args.regs.now) c.loop-r.r (omega arith)

pub returns-clause-value : goal.returns-clause-value
returns-clause-value c = c.loop-r.invariant ∙ forgotten_all (regs_of c.args.regs.now) c.loop-r.r (omega arith)
