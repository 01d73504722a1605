use Rattle.std.proofs.Common.{◌≡◌, ◌+◌, ◌*◌, ◌^◌, ◌≤◌, drop}
use Rattle.spu_plan.proofs.Steps.{root_rest}
use Rattle.spu_plan.proofs.cutting.root_total.Given as goal

abbrev pub invariant-loop-k : goal.invariant-loop-k
invariant-loop-k l = (l.total + root_rest l.buffer (drop l.k l.sizes) (drop l.k l.rooted) ≡ root_rest l.buffer l.sizes l.rooted) × (l.total ≤ 2 ^ 32 * l.k)
