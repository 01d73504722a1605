use Rattle.std.proofs.Common.{◌≡◌, ℕ, suc, [], length, Some, List, Bool, arith, refl, subst}
use Rattle.std.specs.Prelude.{slice_get, min}
use Rattle.std.proofs.lemmas.Option.{slice_get_read}
use Rattle.spu_word.proofs.Places.{get_within}
use Rattle.spu_graph.specs.declared.graph.Edge.{Edge}
use Rattle.spu_graph.specs.Reaching.{IsReaching}
use Rattle.spu_graph.specs.Edges.{leaving}
use Rattle.spu_graph.proofs.Reached.{stepped}
use Rattle.spu_graph.proofs.reach.take_step.Goals as goal

turned : (n : ℕ) (edges : List Edge) (entry : ℕ) (marks : List Bool) (order : List ℕ) (i told g : ℕ) → IsReaching n edges entry marks order told [] → min i (length order) ≡ told → slice_get order i ≡ Some g → IsReaching n edges entry marks order (suc i) (leaving edges g)
turned n edges entry marks order i told g p is at =
    let lt = get_within order i g at in
    let same : told ≡ i = omega (arith, lt, is) in
    stepped n edges entry marks order i g (subst (λ t. IsReaching n edges entry marks order t []) same p) at

pub spread-requires-clause-g : goal.spread-requires-clause-g
spread-requires-clause-g c =
    let len = c.len.ensures in let ok = c.args.order.now.ok in let test = c.if-i-len.false in
    let at = slice_get_read c.args.order.now.items _ c.args.i c.index-g.result.now refl (omega (arith, len, ok, test)) c.index-g.ensures in
    let lt = get_within c.args.marks.now.items _ _ (c.requires.1.ordered c.args.i c.index-g.result.now at) in
    let all = c.requires.1.all in
    omega (arith, lt, all)

pub spread-requires-clause-on : goal.spread-requires-clause-on
spread-requires-clause-on c =
    let len = c.len.ensures in let ok = c.args.order.now.ok in let test = c.if-i-len.false in
    let at = slice_get_read c.args.order.now.items _ c.args.i c.index-g.result.now refl (omega (arith, len, ok, test)) c.index-g.ensures in
    c.requires.1.ordered c.args.i c.index-g.result.now at

pub spread-requires-clause-reaching : goal.spread-requires-clause-reaching
spread-requires-clause-reaching c =
    let len = c.len.ensures in let ok = c.args.order.now.ok in let test = c.if-i-len.false in
    let at = slice_get_read c.args.order.now.items _ c.args.i c.index-g.result.now refl (omega (arith, len, ok, test)) c.index-g.ensures in
    (suc c.args.i, turned _ _ _ _ _ c.args.i c.requires.0 c.index-g.result.now c.requires.1 c.requires.2 at)

pub returns-then-i-len : goal.returns-then-i-len
returns-then-i-len c =
    let len = c.len.ensures in let ok = c.args.order.now.ok in let test = c.if-i-len.true in let is = c.requires.2 in
    (c.requires.0, c.requires.1, omega (arith, len, ok, test, is))

pub returns : goal.returns
returns c =
    let len = c.len.ensures in let ok = c.args.order.now.ok in let test = c.if-i-len.false in
    let at = slice_get_read c.args.order.now.items _ c.args.i c.index-g.result.now refl (omega (arith, len, ok, test)) c.index-g.ensures in
    let now = c.in_ok-spread.ensures (suc c.args.i) (turned _ _ _ _ _ c.args.i c.requires.0 c.index-g.result.now c.requires.1 c.requires.2 at) in
    let inside = now.told_within in
    (suc c.args.i, now, omega (arith, inside))
