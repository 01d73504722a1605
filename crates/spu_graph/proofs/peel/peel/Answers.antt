use Rattle.std.proofs.Common.{◌≡◌, suc, ◌+◌, ◌<◌, [], length, replicate, None, inr, ◌∙◌, ap, subst, arith, rules}
use Rattle.spu_word.specs.Lists.{stands_on}
use Rattle.spu_graph.specs.Peeling.{IsPeeling}
use Rattle.spu_graph.proofs.Settled.{settled}
use Rattle.spu_graph.proofs.Turns.{needs_small, order_short, starts_with, begins, ends}
use Rattle.spu_graph.proofs.peel.peel.Goals as goal

pub settle-requires-clause-small : goal.settle-requires-clause-small
settle-requires-clause-small c = needs_small _ _ _ _ _ _ _ _ _ _ c.loop-f.invariant c.args.graph.now.few

pub loop-f-init : goal.loop-f-init
loop-f-init c =
    let needs : c.in_ok-needs.needs.items ≡ replicate c.count-count.result None = c.in_ok-needs.ensures.items_if_clones_equal (λ y h. search rules) in
    let waits : c.in_ok-waits.waits.items ≡ replicate c.count-count.result None = c.in_ok-waits.ensures.items_if_clones_equal (λ y h. search rules) in
    starts_with c.args.graph.now.frames.items c.args.graph.now.edges.items c.count-count.result c.count-count.ensures _ _ _ needs waits c.new-order.ensures.items

pub loop-f-preserved : goal.loop-f-preserved
loop-f-preserved c =
    let count = c.count-count.ensures in
    let test = c.loop-f-test.true in
    let inside : c.loop-f.f < length c.args.graph.now.frames.items = omega (arith, count, test) in
    let one : suc c.loop-f.f ≡ c.loop-f.f + 1 = omega arith in
    subst (λ n. IsPeeling c.args.graph.now.frames.items c.args.graph.now.edges.items c.settle.new.needs.items c.settle.new.waits.items c.settle.new.order.items n None 0 0 []) one
    (settled _ c.args.graph.now.low _ _ _ _ (suc c.loop-f.f) c.loop-f.f 0 0 [] (begins _ _ _ _ _ c.loop-f.f 0 0 [] c.loop-f.invariant)
    inside (c.loop-f.invariant.later c.loop-f.f (omega arith) inside) c.first_call-from.result
    (λ k on. inr (ap (λ z. stands_on z k) c.first_call-from.ensures.all ∙ on)) (omega arith) _ _ _ c.in_ok-settle.ensures)

pub returns : goal.returns
returns c =
    let count = c.count-count.ensures in
    let test = c.loop-i-test.false in
    let p = c.loop-i.invariant.2 in
    let is = c.loop-i.invariant.3 in
    let short = order_short _ _ _ _ _ _ _ _ _ _ p in
    ends _ _ _ _ _ c.loop-i.invariant.0 c.loop-i.invariant.1 p (omega (arith, count, test, is, short))
