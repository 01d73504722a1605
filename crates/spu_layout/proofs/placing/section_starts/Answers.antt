use Rattle.std.proofs.Common.{◌+◌, arith, subst, sym}
use Rattle.spu_layout.specs.Views.{AreEnds, AreStarts}
use Rattle.spu_layout.proofs.Ends.{sum_low, starts_more, ends_more}
use Rattle.spu_layout.proofs.placing.section_starts.Goals as goal

pub overflow_add-start : goal.overflow_add-start
overflow_add-start c =
    let low = sum_low c.args.p.now c.args.plan.now c.requires.regions c.as_slice-section-items.result.now c.as_slice-section-items.ensures c.as_slice-regions.result.now c.as_slice-regions.ensures
    c.loop-k.k c.loop-k-test.true c.section-item.result c.section-item.is c.loop-k.ends c.loop-k.invariant.1 c.as_slice.result.now c.as_slice.ensures c.rounded.result c.rounded.ensures in
    omega (arith, low)

pub loop-k-preserved : goal.loop-k-preserved
loop-k-preserved c = (
  subst (AreStarts c.args.p.now c.args.plan.now (c.loop-k.k + 1)) (sym c.in_ok-push.ensures.ok)
      (starts_more c.args.p.now c.args.plan.now c.requires.regions c.as_slice-section-items.result.now c.as_slice-section-items.ensures c.as_slice-regions.result.now c.as_slice-regions.ensures
      c.loop-k.k c.loop-k-test.true c.section-item.result c.section-item.is c.loop-k.ends c.loop-k.invariant.1 c.as_slice.result.now c.as_slice.ensures c.loop-k.starts c.loop-k.invariant.0),
  subst (AreEnds c.args.p.now c.args.plan.now (c.loop-k.k + 1)) (sym c.set.ensures)
      (ends_more c.args.p.now c.args.plan.now c.requires.regions c.as_slice-section-items.result.now c.as_slice-section-items.ensures c.as_slice-regions.result.now c.as_slice-regions.ensures
      c.loop-k.k c.loop-k-test.true c.section-item.result c.section-item.is c.loop-k.ends c.loop-k.invariant.1 c.as_slice.result.now c.as_slice.ensures c.rounded.result c.rounded.ensures),
)
