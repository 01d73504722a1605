use Rattle.std.proofs.Common.{arith}
use Rattle.spu_graph.proofs.Numbers.{edge_leaves}
use Rattle.spu_graph.proofs.Settled.{settled}
use Rattle.spu_graph.proofs.Turns.{needs_small, told_but, told_none, passed_by}
use Rattle.spu_graph.proofs.peel.tell.Goals as goal

pub is_waiting-requires-clause-needs : goal.is_waiting-requires-clause-needs
is_waiting-requires-clause-needs c = let from = c.edge-f.ensures.from in let all = c.requires.peeling.3.needs_all in omega (arith, from, all)

pub is_waiting-requires-clause-waits : goal.is_waiting-requires-clause-waits
is_waiting-requires-clause-waits c = let from = c.edge-f.ensures.from in let all = c.requires.peeling.3.waits_all in omega (arith, from, all)

pub settle-requires-clause-needs : goal.settle-requires-clause-needs
settle-requires-clause-needs c = c.requires.peeling.3.needs_all

pub settle-requires-clause-waits : goal.settle-requires-clause-waits
settle-requires-clause-waits c = c.requires.peeling.3.waits_all

pub settle-requires-clause-small : goal.settle-requires-clause-small
settle-requires-clause-small c = needs_small _ _ _ _ _ _ _ _ _ _ c.requires.peeling.3 c.args.graph.now.few

pub settle-requires-clause-on : goal.settle-requires-clause-on
settle-requires-clause-on c = edge_leaves _ c.args.e c.edge-f.result c.edge-f.ensures.is

pub returns-then-is_waiting : goal.returns-then-is_waiting
returns-then-is_waiting c = λ told g rest p.
    let yes = c.is_waiting.ensures.yes c.if-is_waiting.true in
    settled _ c.args.graph.now.low _ _ _ _ _ _ told g rest (told_but _ _ _ _ _ _ told g c.args.e rest c.edge-f.result c.edge-f.ensures.is p)
    c.edge-f.ensures.from yes.0 _ (passed_by _ _ _ _ _ _ told g c.args.e rest c.edge-f.result c.edge-f.ensures.is p c.edge-f.ensures.from yes.0 yes.1) c.edge-f.ensures.from _ _ _ c.in_ok-settle.ensures

pub returns : goal.returns
returns c = λ told g rest p. told_none _ _ _ _ _ _ told g c.args.e rest c.edge-f.result c.edge-f.ensures.is p (c.is_waiting.ensures.no c.if-is_waiting.false)
