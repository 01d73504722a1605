use Rattle.std.proofs.Common.{ℕ, None, ◌∙◌, ap, arith}
use Rattle.std.specs.List.{Contains}
use Rattle.std.specs.Prelude.{slice_index, nat_lt, if◌then◌else◌}
use Rattle.spu_frame.specs.Found.{frame_at}
use Rattle.spu_graph.specs.Graphs.{frames_of, edges_of}
use Rattle.spu_graph.specs.Known.{need_of}
use Rattle.spu_judge.proofs.Adding.{no_frame}
use Rattle.spu_judge.proofs.Needs.{own_needs, made_recursive}
use Rattle.spu_judge.proofs.Promised.{graph_refused}
use Rattle.spu_judge.proofs.judging.needs_of.Goals as goal

pub returns-in-Ok-clause-needs : goal.returns-in-Ok-clause-needs
returns-in-Ok-clause-needs c =
    let graph = c.in_ok-graph.graph in
    own_needs c.args.p.now c.requires.formed (Contains (edges_of graph)) c.in_ok-graph.ensures.made c.in_ok-graph.ensures.each
    (slice_index (frames_of graph)) (frame_at c.args.depths.now) c.in_ok-graph.ensures.frames (no_frame c.args.depths.now _ _ c.requires.count (omega arith))
    c.args.p.now.entry c.requires.formed.entry.1 (need_of c.in-Ok.needs) _ (λ f. c.keep_first.ensures f ∙ ap (λ (n : ℕ). if nat_lt f n then need_of c.in-Ok.needs f else None) c.pointer_node.ensures) c.in-Ok.ensures.needs

pub returns-in-Ok-clause-acyclic : goal.returns-in-Ok-clause-acyclic
returns-in-Ok-clause-acyclic c = λ r. c.in-Ok.ensures.acyclic (made_recursive c.args.p.now c.requires.formed (Contains (edges_of c.in_ok-graph.graph)) c.in_ok-graph.ensures.made c.in_ok-graph.ensures.each c.args.p.now.entry r)

pub graph_refusal-requires-clause-fault : goal.graph_refusal-requires-clause-fault
graph_refusal-requires-clause-fault c =
    graph_refused c.args.p.now c.requires.formed (Contains (edges_of c.in_ok-graph.graph)) c.in_ok-graph.ensures.made c.in-Err.fault c.in-Err.ensures.refused
