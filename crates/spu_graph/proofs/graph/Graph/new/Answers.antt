use Rattle.std.proofs.Common.{◌≤◌, ◌∙◌, ℕ, List, sym, subst, length}
use Rattle.std.specs.List.{All}
use Rattle.spu_word.specs.Chains.{lists_of}
use Rattle.spu_word.specs.declared.limits.TheConstants.{MAX_STACK_LIMIT}
use Rattle.spu_graph.specs.declared.graph.Edge.{Edge}
use Rattle.spu_graph.specs.Edges.{IsGraph}
use Rattle.spu_graph.proofs.Numbers.{graph_none}
use Rattle.spu_graph.proofs.graph.Graph.new.Goals as goal

pub invariant_of-result-clause-graph : goal.invariant_of-result-clause-graph
invariant_of-result-clause-graph c =
    subst (λ (z : List Edge). IsGraph (length c.in_ok-copy.copy.items) z (lists_of c.in_ok-calls.calls) (lists_of c.in_ok-callers.callers)) (sym c.new-3.ensures.items)
    (graph_none _ _ _ c.in_ok-calls.ensures.lists c.in_ok-callers.ensures.lists)

pub invariant_of-result-clause-low : goal.invariant_of-result-clause-low
invariant_of-result-clause-low c = subst (λ (z : List ℕ). All (λ n. n ≤ MAX_STACK_LIMIT) z) (sym (c.in_ok-copy.ensures.items ∙ c.as_slice.ensures)) c.requires.low
