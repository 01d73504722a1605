use Rattle.std.proofs.Common.{◌≡◌, ℕ, List, ◌∷◌, Option, Some, None, length, subst}
use Rattle.spu_graph.specs.declared.graph.Edge.{Edge}
use Rattle.spu_graph.specs.Edges.{entering, rest_of}
use Rattle.spu_graph.specs.Peeling.{IsPeeling}
use Rattle.spu_graph.proofs.Numbers.{entering_within, if_some}
use Rattle.spu_graph.proofs.peel.release.Goals as goal

-- with an edge at hand, and the ones behind it
at_edge : (frames : List ℕ) (edges : List Edge) (needs waits : List (Option ℕ)) (order : List ℕ) (n told g : ℕ) (at r : Option ℕ) (e : ℕ) → at ≡ Some e → rest_of (entering edges g) (Some e) ≡ e ∷ rest_of (entering edges g) r
    → IsPeeling frames edges needs waits order n None told g (rest_of (entering edges g) at) → IsPeeling frames edges needs waits order n None told g (e ∷ rest_of (entering edges g) r)
at_edge frames edges needs waits order n told g at r e is rest p =
    subst (λ (z : List ℕ). IsPeeling frames edges needs waits order n None told g z) rest
    (subst (λ (o : Option ℕ). IsPeeling frames edges needs waits order n None told g (rest_of (entering edges g) o)) is p)

pub next_caller-next-requires : goal.next_caller-next-requires
next_caller-next-requires c = (c.args.g, if_some _ _ _ c.in-Some.is c.loop-at.invariant.0)

pub tell-requires-clause-e : goal.tell-requires-clause-e
tell-requires-clause-e c = entering_within _ c.args.g c.in-Some.e (if_some _ _ _ c.in-Some.is c.loop-at.invariant.0)

pub tell-requires-clause-peeling : goal.tell-requires-clause-peeling
tell-requires-clause-peeling c =
    let on = if_some _ _ _ c.in-Some.is c.loop-at.invariant.0 in (
      c.requires.peeling.0,
      c.args.g,
      rest_of (entering c.args.graph.now.edges.items c.args.g) c.next_caller-next.result,
      at_edge _ _ _ _ _ _ c.requires.peeling.0 c.args.g _ _ c.in-Some.e c.in-Some.is (c.next_caller-next.ensures.rest c.args.g on) (c.loop-at.invariant.1 c.requires.peeling.0 c.requires.peeling.1),
    )

pub loop-at-preserved : goal.loop-at-preserved
loop-at-preserved c =
    let on = if_some _ _ _ c.in-Some.is c.loop-at.invariant.0 in (
      c.next_caller-next.ensures.on c.args.g on,
      λ told p. c.in_ok-tell.ensures told c.args.g _ (at_edge _ _ _ _ _ _ told c.args.g _ _ c.in-Some.e c.in-Some.is (c.next_caller-next.ensures.rest c.args.g on) (c.loop-at.invariant.1 told p)),
    )

pub returns : goal.returns
returns c = λ told p. subst (λ (o : Option ℕ). IsPeeling c.args.graph.now.frames.items c.args.graph.now.edges.items c.loop-at.needs.items c.loop-at.waits.items c.loop-at.order.items (length c.args.graph.now.frames.items) None told c.args.g (rest_of (entering c.args.graph.now.edges.items c.args.g) o)) c.in_default.is (c.loop-at.invariant.1 told p)
