use Rattle.std.proofs.Common.{◌≡◌, ◌+◌, ◌≤◌, ◌<◌, ℕ, List, sym, subst, arith, slice_index_or}
use Rattle.std.specs.Prelude.{All}
use Rattle.spu_lift.specs.WellFormed.{IsRising}
use Rattle.spu_samples.proofs.Formed.{rising_more, below_more, inside_more}
use Rattle.spu_samples.proofs.programs.taken_numbers.Goals as goal

pub loop-n-preserved : goal.loop-n-preserved
loop-n-preserved c =
    let inv = c.loop-n.invariant in
    let some = inv.some in
    let n = slice_index_or c.args.numbers.now c.loop-n.n-index 0 in
    let new = c.in_ok-push.ensures.ok in
    let low : c.loop-n.least ≤ n = c.if-at-least.false in
    let high : n < c.args.end = c.if-end-at.false in
    record {
      some = omega arith;
      rising = subst IsRising (sym new) (rising_more c.loop-n.least n c.loop-n.all inv.rising inv.below low);
      below = subst (All (λ m. m < n + 1)) (sym new) (below_more c.loop-n.least n c.loop-n.all inv.below low);
      inside = subst (All (λ m. (0 < m) × (m < c.args.end))) (sym new) (inside_more c.args.end n c.loop-n.all inv.inside (omega (arith, some, low)) high);
    }
