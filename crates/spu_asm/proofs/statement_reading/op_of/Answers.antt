use Rattle.spu_asm.proofs.FoundNames.{op_found}
use Rattle.spu_asm.proofs.statement_reading.op_of.Goals as goal

pub returns : goal.returns
returns c = op_found c.op_named.result _ c.op_named.ensures.some c.op_named.ensures.only c.op_named.ensures.none
