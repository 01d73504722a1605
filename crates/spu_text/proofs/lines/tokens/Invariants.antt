use Rattle.std.proofs.Common.{◌≡◌, ◌+◌, ◌≤◌, length}
use Rattle.spu_text.specs.Texts.{lines_read, lines_of, with_front, text_read}
use Rattle.spu_text.proofs.lines.tokens.Given as goal

abbrev pub invariant-loop-rest : goal.invariant-loop-rest
invariant-loop-rest l = record {
  read : with_front l.all (lines_read l.number l.start (lines_of l.rest)) ≡ text_read l.text;
  place : l.start + length l.rest ≡ length l.text;
  line : l.number ≤ l.start + 1;
}

abbrev pub decreases-loop-rest : goal.decreases-loop-rest
decreases-loop-rest l = length l.rest
