use Rattle.std.proofs.Common.{◌<◌, ◌≢◌, length, arith, get_or-set_other, get_or-set_same, below_more}
use Rattle.std.proofs.Math.ListN.{length-set}
use Rattle.spu_ideal.proofs.landing.landing_tags.Goals as goal

pub loop-tag-preserved : goal.loop-tag-preserved
loop-tag-preserved c = record {
  len = rw length-set c.loop-tag.invariant.len;
  told =
      below_more _ _
      (λ k h. let ne : k ≢ c.loop-tag.tag = omega arith in rw get_or-set_other (c.loop-tag.invariant.told k h))
      (let lt : c.loop-tag.tag < length c.loop-tag.tags = omega arith in rw get_or-set_same c.is_landing.ensures);
}
