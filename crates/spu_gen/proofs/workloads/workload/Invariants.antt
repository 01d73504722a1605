use Rattle.std.proofs.Common.{◌≡◌}
use Rattle.spu_gen.specs.Workloads.{HasFunctions, draw}
use Rattle.spu_gen.proofs.workloads.workload.Given as goal

abbrev pub invariant-loop-index : goal.invariant-loop-index
invariant-loop-index l = HasFunctions l.seed l.count l.index l.object × (l.draw ≡ draw l.seed l.index)
