use Rattle.std.proofs.Common.{◌≡◌, ℕ, true, length, IfSome, None}
use Rattle.spu_word.specs.Lists.{stands_on}
use Rattle.spu_graph.specs.Edges.{entering, rest_of}
use Rattle.spu_graph.specs.Peeling.{IsPeeling}
use Rattle.spu_graph.proofs.peel.release.Given as goal

abbrev pub invariant-loop-at : goal.invariant-loop-at
invariant-loop-at l =
    IfSome l.at (λ e. stands_on (entering l.graph.edges.items l.g) e ≡ true)
    × ((told : ℕ) → IsPeeling l.graph.frames.items l.graph.edges.items l.fn.needs.items l.fn.waits.items l.fn.order.items (length l.graph.frames.items) None told l.g (entering l.graph.edges.items l.g)
    → IsPeeling l.graph.frames.items l.graph.edges.items l.needs.items l.waits.items l.order.items (length l.graph.frames.items) None told l.g (rest_of (entering l.graph.edges.items l.g) l.at))

abbrev pub decreases-loop-at : goal.decreases-loop-at
decreases-loop-at l = length (rest_of (entering l.graph.edges.items l.g) l.at)
