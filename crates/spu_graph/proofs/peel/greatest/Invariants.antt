use Rattle.std.proofs.Common.{◌≡◌, true, length, IfSome, slice_index}
use Rattle.std.specs.Prelude.{max}
use Rattle.spu_word.specs.Lists.{stands_on}
use Rattle.spu_graph.specs.Edges.{leaving, rest_of}
use Rattle.spu_graph.specs.Peeling.{greatest_on}
use Rattle.spu_graph.proofs.peel.greatest.Given as goal

abbrev pub invariant-loop-at : goal.invariant-loop-at
invariant-loop-at l =
    IfSome l.at (λ e. stands_on (leaving l.graph.edges.items l.f) e ≡ true)
    × (max l.best (greatest_on l.graph.frames.items l.needs l.graph.edges.items (rest_of (leaving l.graph.edges.items l.f) l.at)) ≡ max (slice_index l.graph.frames.items l.f) (greatest_on l.graph.frames.items l.needs l.graph.edges.items (leaving l.graph.edges.items l.f)))

abbrev pub decreases-loop-at : goal.decreases-loop-at
decreases-loop-at l = length (rest_of (leaving l.graph.edges.items l.f) l.at)
