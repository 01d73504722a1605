use Rattle.spu_asm.proofs.InRanges.{in_range_lem}
use Rattle.spu_asm.proofs.laws.operands_in_range.Goals as goal

pub returns : goal.returns
returns c = in_range_lem
