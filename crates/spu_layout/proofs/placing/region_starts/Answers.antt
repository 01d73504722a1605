use Rattle.std.proofs.Common.{arith}
use Rattle.spu_layout.proofs.Ends.{regions_begin}
use Rattle.spu_layout.proofs.placing.region_starts.Goals as goal

pub returns : goal.returns
returns c =
    let all = c.loop-r-test.false in
    regions_begin c.args.p.now c.args.plan.now c.requires.regions c.loop-r.starts (omega (arith, all, c.loop-r.invariant.0)) (λ k lt. c.loop-r.invariant.1 k (omega (arith, all, lt)))
