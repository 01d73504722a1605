use Rattle.spu_elf.proofs.ExecutableRound.{spelled_passes, spelled_is, spelled_once}
use Rattle.spu_elf.specs.declared.executables.Exec.{Exec}
use Rattle.spu_elf.proofs.executables.Exec.valid.Goals as goal

pub returns-clause-passes : goal.returns-clause-passes
returns-clause-passes c = spelled_passes c.args.self.now

pub returns-clause-read_again : goal.returns-clause-read_again
returns-clause-read_again c = spelled_is c.args.self.now

pub returns-clause-once : goal.returns-clause-once
returns-clause-once c = λ (x : Exec). spelled_once c.args.self.now x
