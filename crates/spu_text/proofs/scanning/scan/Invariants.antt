use Rattle.std.proofs.Common.{◌≡◌, ◌+◌, ◌≤◌, length}
use Rattle.spu_word.specs.declared.limits.TheConstants.{MAX_LINE_SIZE}
use Rattle.spu_text.specs.Texts.{scan, with_front}
use Rattle.spu_text.proofs.scanning.scan.Given as goal

abbrev pub invariant-loop-rest : goal.invariant-loop-rest
invariant-loop-rest l = record {
  read : with_front l.all (scan l.number l.at 0 l.rest) ≡ with_front l.fn.all (scan l.number l.fn.start 0 l.fn.line);
  place : l.at + length l.rest ≡ l.fn.start + length l.fn.line;
  short : length l.rest ≤ MAX_LINE_SIZE;
}

abbrev pub decreases-loop-rest : goal.decreases-loop-rest
decreases-loop-rest l = length l.rest
