use Rattle.spu_isa.proofs.Agreement.{row_at}
use Rattle.spu_isa.proofs.table.row.Goals as goal

pub returns : goal.returns
returns c = row_at _ c.args.op
