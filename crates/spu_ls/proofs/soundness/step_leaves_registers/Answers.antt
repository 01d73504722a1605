use Rattle.spu_ls.proofs.Unwritten.{step_leaves, step_leaves_all}
use Rattle.spu_ls.proofs.soundness.step_leaves_registers.Goals as goal

pub returns-clause-other : goal.returns-clause-other
returns-clause-other c = step_leaves

pub returns-clause-none : goal.returns-clause-none
returns-clause-none c = step_leaves_all
