use Rattle.std.proofs.Common.{arith, length, ◌<◌, ◌≡◌, ◌∷◌, ap, take}
use Rattle.std.proofs.lemmas.Bool.Decides.{nat_tests}
use Rattle.spu_text.specs.Texts.{lines_of, line_len}
use Rattle.spu_text.proofs.LineSteps.{lines_first}
use Rattle.spu_text.proofs.lines.line_count.Goals as goal

pub loop-rest-preserved : goal.loop-rest-preserved
loop-rest-preserved c =
    let inv = c.loop-rest.invariant in
    let cut = c.split_at.ensures in
    let some : 0 < length c.loop-rest.rest.now = grind (arith, nat_tests) in
    let split : lines_of c.loop-rest.rest.now ≡ take (line_len c.loop-rest.rest.now) c.loop-rest.rest.now ∷ lines_of c.split_at.result.1.now = cc (lines_first c.loop-rest.rest.now some, cut.back, c.line_len.ensures.len) in
    record {
      lines = omega (arith, inv.lines, ap length split);
      bytes = omega (arith, inv.bytes, cut.front_len, cut.back_len, c.line_len.ensures.some some);
    }
