use Rattle.std.proofs.Common.{◌≡◌, ℕ, List, [], ◌∷◌, ◌++◌, length, sym, ap, ◌∙◌, subst, arith}
use Rattle.std.specs.Prelude.{if◌then◌else◌, ◌==◌}
use Rattle.spu_word.specs.Chains.{lists_of}
use Rattle.spu_graph.specs.declared.graph.Edge.{Edge}
use Rattle.spu_graph.specs.Edges.{IsGraph}
use Rattle.spu_graph.proofs.Numbers.{graph_more, leaving_off}
use Rattle.spu_graph.proofs.graph.Graph.add_edge.Goals as goal

pub append-requires-clause-free : goal.append-requires-clause-free
append-requires-clause-free c = λ l.
    let count = c.len-slot.ensures in
    let ok = c.args.self.now.edges.ok in
    let same : length c.make_ready.new.self.edges.items ≡ length c.args.self.now.edges.items = ap length c.make_ready.ensures.edges in
    leaving_off _ _ l c.len-slot.result (c.make_ready.new.self.graph.leave l) (omega (arith, count, ok, same))

pub invariant_of-self-2-clause-graph : goal.invariant_of-self-2-clause-graph
invariant_of-self-2-clause-graph c =
    let count = c.len-slot.ensures in
    let ok = c.args.self.now.edges.ok in
    let same : length c.make_ready.new.self.edges.items ≡ length c.args.self.now.edges.items = ap length c.make_ready.ensures.edges in
    let slot : c.len-slot.result ≡ length c.make_ready.new.self.edges.items = omega (arith, count, ok, same) in
    let frames : length c.make_ready.new.self.frames.items ≡ length c.args.self.now.frames.items = ap length c.make_ready.ensures.frames in
    let from = c.requires.from in
    let to = c.requires.to in
    let edge : Edge = record { from = c.args.from; to = c.args.to; call = c.args.call } in
    let pushed : c.push.new.self.items ≡ c.make_ready.new.self.edges.items ++ edge ∷ [] = c.in_ok-push.ensures.items in
    subst (λ (z : List Edge). IsGraph (length c.make_ready.new.self.frames.items) z (lists_of c.append.new.self) (lists_of c.append-2.new.self)) (sym pushed)
    (graph_more (length c.make_ready.new.self.frames.items) c.make_ready.new.self.edges.items (lists_of c.make_ready.new.self.calls) (lists_of c.make_ready.new.self.callers) (lists_of c.append.new.self) (lists_of c.append-2.new.self) edge
    c.make_ready.new.self.graph (omega (arith, frames, from)) (omega (arith, frames, to))
    (λ f. c.append.ensures.lists f ∙ ap (λ n. if f == c.args.from then lists_of c.make_ready.new.self.calls f ++ n ∷ [] else lists_of c.make_ready.new.self.calls f) slot)
    (λ f. c.append-2.ensures.lists f ∙ ap (λ (z : List ℕ). if f == c.args.to then z ++ c.len-slot.result ∷ [] else z) (c.add_slot.ensures.lists f)
    ∙ ap (λ n. if f == c.args.to then lists_of c.make_ready.new.self.callers f ++ n ∷ [] else lists_of c.make_ready.new.self.callers f) slot))
