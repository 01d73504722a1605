use Rattle.std.proofs.Common.{ap, sym, ◌∙◌}
use Rattle.spu_elf.specs.Executables.{exec_in}
use Rattle.spu_elf.proofs.ExecutableRound.{spelled_is}
use Rattle.spu_cesof.proofs.unpacking.exec_in.Goals as goal

pub returns-in-Ok-clause-value : goal.returns-in-Ok-clause-value
returns-in-Ok-clause-value c = sym (spelled_is c.in-Ok.x c.in-Ok.ensures.value.0) ∙ ap exec_in c.in-Ok.ensures.value.1
