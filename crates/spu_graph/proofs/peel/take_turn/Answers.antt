use Rattle.std.proofs.Common.{◌≡◌, ℕ, suc, [], length, None, Some, List, Option, arith, refl, subst}
use Rattle.std.specs.Prelude.{slice_get, min}
use Rattle.std.proofs.lemmas.Option.{slice_get_read}
use Rattle.spu_word.proofs.Places.{get_within}
use Rattle.spu_graph.specs.declared.graph.Edge.{Edge}
use Rattle.spu_graph.specs.Peeling.{IsPeeling}
use Rattle.spu_graph.specs.Edges.{entering}
use Rattle.spu_graph.proofs.Turns.{turn}
use Rattle.spu_graph.proofs.peel.take_turn.Goals as goal

turned : (frames : List ℕ) (edges : List Edge) (needs waits : List (Option ℕ)) (order : List ℕ) (n i told h g : ℕ) → IsPeeling frames edges needs waits order n None told h [] → min i (length order) ≡ told → slice_get order i ≡ Some g → IsPeeling frames edges needs waits order n None (suc i) g (entering edges g)
turned frames edges needs waits order n i told h g p is at =
    let lt = get_within order i g at in
    let same : told ≡ i = omega (arith, lt, is) in
    turn frames edges needs waits order n i g h (subst (λ t. IsPeeling frames edges needs waits order n None t h []) same p) at

pub release-requires-clause-g : goal.release-requires-clause-g
release-requires-clause-g c =
    let len = c.len.ensures in let ok = c.args.order.now.ok in let test = c.if-i-len.false in
    let at = slice_get_read c.args.order.now.items _ c.args.i c.index-g.result.now refl (omega (arith, len, ok, test)) c.index-g.ensures in
    let d = c.requires.2.ordered c.args.i c.index-g.result.now at in
    let lt = get_within c.args.needs.now.items _ _ d.1 in
    let all = c.requires.2.needs_all in
    omega (arith, lt, all)

pub release-requires-clause-peeling : goal.release-requires-clause-peeling
release-requires-clause-peeling c =
    let len = c.len.ensures in let ok = c.args.order.now.ok in let test = c.if-i-len.false in
    let at = slice_get_read c.args.order.now.items _ c.args.i c.index-g.result.now refl (omega (arith, len, ok, test)) c.index-g.ensures in
    (suc c.args.i, turned _ _ _ _ _ _ c.args.i c.requires.0 c.requires.1 c.index-g.result.now c.requires.2 c.requires.3 at)

pub returns-then-i-len : goal.returns-then-i-len
returns-then-i-len c =
    let len = c.len.ensures in let ok = c.args.order.now.ok in let test = c.if-i-len.true in let is = c.requires.3 in
    (c.requires.0, c.requires.1, c.requires.2, omega (arith, len, ok, test, is))

pub returns : goal.returns
returns c =
    let len = c.len.ensures in let ok = c.args.order.now.ok in let test = c.if-i-len.false in
    let at = slice_get_read c.args.order.now.items _ c.args.i c.index-g.result.now refl (omega (arith, len, ok, test)) c.index-g.ensures in
    let now = c.in_ok-release.ensures (suc c.args.i) (turned _ _ _ _ _ _ c.args.i c.requires.0 c.requires.1 c.index-g.result.now c.requires.2 c.requires.3 at) in
    let inside = now.told_within in
    (suc c.args.i, c.index-g.result.now, now, omega (arith, inside))
