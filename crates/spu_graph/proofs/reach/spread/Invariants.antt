use Rattle.std.proofs.Common.{◌≡◌, ℕ, true, length, IfSome, Some}
use Rattle.std.specs.Prelude.{slice_get}
use Rattle.spu_word.specs.Lists.{stands_on}
use Rattle.spu_graph.specs.Edges.{leaving, rest_of}
use Rattle.spu_graph.specs.Reaching.{IsReaching}
use Rattle.spu_graph.proofs.reach.spread.Given as goal

abbrev pub invariant-loop-at : goal.invariant-loop-at
invariant-loop-at l =
    IfSome l.at (λ e. stands_on (leaving l.graph.edges.items l.g) e ≡ true)
    × ((told : ℕ) → IsReaching (length l.graph.frames.items) l.graph.edges.items l.entry l.fn.marks.items l.fn.order.items told (leaving l.graph.edges.items l.g)
    → IsReaching (length l.graph.frames.items) l.graph.edges.items l.entry l.marks.items l.order.items told (rest_of (leaving l.graph.edges.items l.g) l.at))
    × (slice_get l.marks.items l.g ≡ Some true)

abbrev pub decreases-loop-at : goal.decreases-loop-at
decreases-loop-at l = length (rest_of (leaving l.graph.edges.items l.g) l.at)
