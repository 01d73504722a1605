use Rattle.std.proofs.Common.{arith}
use Rattle.spu_elf.proofs.ReadWhole.{well_formed_answer, as_read_answer}
use Rattle.spu_elf.proofs.reading.object.read_object.Goals as goal

pub returns-clause-well_formed : goal.returns-clause-well_formed
returns-clause-well_formed c = well_formed_answer c.read.result c.args.bytes.now (λ i. let f = c.type_inv.bytes i in omega (arith, f)) c.read.ensures.checks c.read.ensures.value

pub returns-clause-as_read : goal.returns-clause-as_read
returns-clause-as_read c = as_read_answer c.read.result c.args.bytes.now (λ i. let f = c.type_inv.bytes i in omega (arith, f)) c.read.ensures.checks c.read.ensures.value
