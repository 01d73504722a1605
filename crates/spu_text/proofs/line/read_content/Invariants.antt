use Rattle.std.proofs.Common.{◌≡◌, ◌≤◌, length}
use Rattle.spu_word.specs.declared.limits.TheConstants.{MAX_LINE_SIZE}
use Rattle.spu_text.specs.Lexemes.{lexemes}
use Rattle.spu_text.proofs.LexemeSteps.{behind}
use Rattle.spu_text.proofs.line.read_content.Given as goal

abbrev pub invariant-loop-rest : goal.invariant-loop-rest
invariant-loop-rest l = record {
  read : behind l.pieces.items (lexemes 0 l.rest) ≡ lexemes 0 l.line;
  short : length l.rest ≤ MAX_LINE_SIZE;
}

abbrev pub decreases-loop-rest : goal.decreases-loop-rest
decreases-loop-rest l = length l.rest
