use Rattle.std.proofs.Common.{arith}
use Rattle.spu_elf.proofs.ExecutableWhole.{answer}
use Rattle.spu_elf.proofs.reading.executable.read_exec.Goals as goal

pub returns-clause-value : goal.returns-clause-value
returns-clause-value c = answer c.read_fields.result c.args.bytes.now (λ i. let f = c.type_inv.bytes i in omega (arith, f)) c.read_fields.ensures.checks c.read_fields.ensures.value
