use Rattle.spu_isa.proofs.Decoded.{one_instruction_lem}
use Rattle.spu_isa.proofs.laws.one_instruction.Goals as goal

pub returns : goal.returns
returns c w x y p q = one_instruction_lem w x y p q
