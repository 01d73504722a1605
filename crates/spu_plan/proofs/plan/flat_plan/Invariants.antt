use Rattle.std.proofs.Common.{◌≡◌, ◌+◌, take}
use Rattle.std.specs.Prelude.{replicate, sum}
use Rattle.spu_plan.specs.declared.plan.TheConstants.{START_SIZE}
use Rattle.spu_plan.proofs.plan.flat_plan.Given as goal

abbrev pub invariant-loop-size : goal.invariant-loop-size
invariant-loop-size l = (l.region_of ≡ replicate l.size-index 0) × (l.end ≡ l.fn.data_end + START_SIZE + sum (take l.size-index l.sizes))
