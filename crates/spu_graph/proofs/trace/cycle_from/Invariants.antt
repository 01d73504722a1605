use Rattle.std.proofs.Common.{length, ◌-◌}
use Rattle.spu_graph.specs.Tracing.{IsTrace}
use Rattle.spu_graph.proofs.trace.cycle_from.Given as goal

abbrev pub invariant-loop-first : goal.invariant-loop-first
invariant-loop-first l = IsTrace l.graph.frames.items l.graph.edges.items l.needs l.entry l.trace.path.items l.trace.indices.items l.f

abbrev pub decreases-loop-first : goal.decreases-loop-first
decreases-loop-first l = length l.graph.frames.items - length l.trace.path.items
