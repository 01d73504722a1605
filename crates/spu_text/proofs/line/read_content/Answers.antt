use Rattle.std.proofs.Common.{arith}
use Rattle.spu_text.proofs.LexemeSteps.{over_lexeme}
use Rattle.spu_text.proofs.line.read_content.Goals as goal

pub loop-rest-preserved : goal.loop-rest-preserved
loop-rest-preserved c =
    let inv = c.loop-rest.invariant in
    let piece = c.piece_of-kind.ensures in
    record {
      read = over_lexeme _ c.in-Some.kind _ _ _ _ _ _ _ inv.read (cc) (cc) (cc) piece.size piece.nonempty piece.within c.split_at.ensures.front c.split_at.ensures.back c.piece_with.ensures (cc (c.in_ok-put.ensures));
      short = omega (arith, c.split_at.ensures.back_len);
    }
