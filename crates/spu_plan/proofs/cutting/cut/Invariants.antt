use Rattle.spu_plan.proofs.Steps.{Cuts}
use Rattle.spu_plan.proofs.cutting.cut.Given as goal

abbrev pub invariant-loop-k : goal.invariant-loop-k
invariant-loop-k l = Cuts l.buffer l.sizes l.rooted l.k l.region_of l.regions.count l.regions.total
