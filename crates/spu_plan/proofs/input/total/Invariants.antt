use Rattle.std.proofs.Common.{◌≡◌, ◌*◌, ◌^◌, ◌≤◌, take}
use Rattle.std.specs.Prelude.{sum}
use Rattle.spu_plan.proofs.input.total.Given as goal

abbrev pub invariant-loop-size : goal.invariant-loop-size
invariant-loop-size l = (l.total ≡ sum (take l.size-index l.sizes)) × (l.total ≤ 2 ^ 32 * l.size-index)
