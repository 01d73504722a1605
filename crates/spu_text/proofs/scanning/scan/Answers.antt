use Rattle.std.proofs.Common.{arith}
use Rattle.spu_text.proofs.ScanSteps.{front_token}
use Rattle.spu_text.proofs.scanning.scan.Goals as goal

pub loop-rest-preserved : goal.loop-rest-preserved
loop-rest-preserved c =
    let inv = c.loop-rest.invariant in
    let piece = c.piece_of-kind.ensures in
    record {
      read = front_token _ c.loop-rest.at _ c.in-Some.kind _ _ _ _ _ inv.read (cc) (cc) (cc) piece.size piece.nonempty piece.within c.split_at.ensures.back (cc (c.in_ok-push.ensures.ok));
      place = omega (arith, c.split_at.ensures.back_len);
      short = omega (arith, c.split_at.ensures.back_len);
    }
