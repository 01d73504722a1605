use Rattle.spu_isa.proofs.Decoded.{decoded_decodes, decodes_decoded}
use Rattle.spu_isa.proofs.laws.decoding_follows_the_table.Goals as goal

pub returns : goal.returns
returns c w x = (decoded_decodes w x, decodes_decoded w x)
