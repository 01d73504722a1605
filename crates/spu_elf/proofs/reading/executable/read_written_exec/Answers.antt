use Rattle.std.proofs.Common.{◌∙◌}
use Rattle.spu_elf.proofs.ExecutableRound.{same_answer, no_fault}
use Rattle.spu_elf.proofs.reading.executable.read_written_exec.Goals as goal

pub returns-clause-same : goal.returns-clause-same
returns-clause-same c = same_answer c.read_exec.result c.args.x.now c.as_slice.result.now c.requires (c.as_slice.ensures ∙ c.in_ok-bytes.ensures.spelling) c.read_exec.ensures.value

pub returns-clause-passes : goal.returns-clause-passes
returns-clause-passes c = no_fault c.read_exec.result c.args.x.now c.as_slice.result.now c.requires (c.as_slice.ensures ∙ c.in_ok-bytes.ensures.spelling) c.read_exec.ensures.checks
