use Rattle.std.proofs.Common.{◌+◌, ◌≤◌, length}
use Rattle.spu_text.specs.Texts.{lines_of}
use Rattle.spu_asm.proofs.ProgressLemmas.{Leads}
use Rattle.spu_asm.specs.Assembly.{lines_after, run_of}
use Rattle.spu_asm.proofs.assembly.progress_over.Given as goal

abbrev pub invariant-loop-line : goal.invariant-loop-line
invariant-loop-line l = record {
  leads : Leads (run_of l.text) (λ q. lines_after l.number q (lines_of l.rest)) l.progress;
  short : l.number + length l.rest ≤ length l.text + 1;
}

abbrev pub decreases-loop-line : goal.decreases-loop-line
decreases-loop-line l = length l.rest
