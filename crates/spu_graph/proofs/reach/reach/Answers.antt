use Rattle.std.proofs.Common.{◌≡◌, [], List, Bool, false, replicate, subst, arith, rules, ℕ}
use Rattle.spu_graph.specs.Reaching.{IsReaching, IsVisited}
use Rattle.spu_graph.proofs.Reached.{starts_at, reach_short, reached}
use Rattle.spu_graph.proofs.reach.reach.Goals as goal

pub loop-i-init : goal.loop-i-init
loop-i-init c =
    let count = c.count-count.ensures in
    let entry = c.requires in
    let none : c.in_ok-marks.marks.items ≡ replicate c.count-count.result false = c.in_ok-marks.ensures.items_if_clones_equal (λ y h. search rules) in
    let seen = subst (λ (z : List Bool). IsVisited z c.new-order.result.items c.args.entry c.visit.new.marks.items c.visit.new.order.items) none c.in_ok-visit.ensures in
    let fresh = subst (λ (z : List ℕ). IsVisited (replicate c.count-count.result false) z c.args.entry c.visit.new.marks.items c.visit.new.order.items) c.new-order.ensures.items seen in (
      0,
      subst (λ n. IsReaching n c.args.graph.now.edges.items c.args.entry c.visit.new.marks.items c.visit.new.order.items 0 []) count
          (starts_at c.count-count.result c.args.graph.now.edges.items c.args.entry (omega (arith, count, entry)) _ _ fresh),
      omega arith,
    )

pub returns : goal.returns
returns c =
    let count = c.count-count.ensures in
    let test = c.loop-i-test.false in
    let p = c.loop-i.invariant.1 in
    let is = c.loop-i.invariant.2 in
    let short = reach_short _ _ _ _ _ _ _ p in
    reached _ _ _ _ _ c.loop-i.invariant.0 p (omega (arith, count, test, is, short))
