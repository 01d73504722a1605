use Rattle.std.proofs.Common.{arith}
use Rattle.spu_asm.proofs.OperandLemmas.{read_extra}
use Rattle.spu_asm.proofs.operands.+read_all.Goals as goal

pub returns-in-Some : goal.returns-in-Some
returns-in-Some t c = rw c.in-Some.is (read_extra c.args.op c.args.slots.now c.in-Some.field-0 _ _ (omega arith) c.read.ensures)
