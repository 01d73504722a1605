use Rattle.std.proofs.Common.{◌≡◌}
use Rattle.spu_ideal.specs.View.{regs_of}
use Rattle.spu_ideal.proofs.Going.{forgotten_to}
use Rattle.spu_ideal.proofs.calling.forget_registers.Given as goal

abbrev pub invariant-loop-r : goal.invariant-loop-r
invariant-loop-r l = regs_of l.regs ≡ forgotten_to l.r (regs_of l.fn.regs)
