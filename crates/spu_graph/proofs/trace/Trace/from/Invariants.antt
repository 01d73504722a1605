use Rattle.std.proofs.Common.{◌≡◌, take, drop}
use Rattle.spu_graph.proofs.trace.Trace.from.Given as goal

abbrev pub invariant-loop-f : goal.invariant-loop-f
invariant-loop-f l = l.members ≡ take l.f-index (drop l.first l.self.path.items)
