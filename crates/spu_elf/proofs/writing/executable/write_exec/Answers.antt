use Rattle.spu_elf.proofs.ExecutableRound.{written_passes}
use Rattle.spu_elf.proofs.writing.executable.write_exec.Goals as goal

pub returns-clause-passes : goal.returns-clause-passes
returns-clause-passes c = written_passes c.spelled.result c.args.x.now c.requires c.spelled.ensures
