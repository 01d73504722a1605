use Rattle.std.proofs.Common.{◌≡◌, ℕ, List, Bool, true, ◌∷◌, Option, Some, length, sym, ap, ◌∙◌, subst}
use Rattle.std.specs.Prelude.{slice_get}
use Rattle.spu_word.specs.Lists.{stands_on}
use Rattle.spu_graph.specs.declared.graph.Edge.{Edge}
use Rattle.spu_graph.specs.Edges.{leaving, rest_of}
use Rattle.spu_graph.specs.Reaching.{IsReaching}
use Rattle.spu_graph.proofs.Numbers.{leaving_within, leaving_edge, if_some}
use Rattle.spu_graph.proofs.Reached.{visited, visit_keeps}
use Rattle.spu_graph.proofs.reach.spread.Goals as goal

-- with an edge at hand, and the ones behind it
at_edge : (n : ℕ) (edges : List Edge) (entry : ℕ) (marks : List Bool) (order : List ℕ) (told g : ℕ) (at r : Option ℕ) (e : ℕ) → at ≡ Some e → rest_of (leaving edges g) (Some e) ≡ e ∷ rest_of (leaving edges g) r
    → IsReaching n edges entry marks order told (rest_of (leaving edges g) at) → IsReaching n edges entry marks order told (e ∷ rest_of (leaving edges g) r)
at_edge n edges entry marks order told g at r e is rest p =
    subst (λ (z : List ℕ). IsReaching n edges entry marks order told z) rest
    (subst (λ (o : Option ℕ). IsReaching n edges entry marks order told (rest_of (leaving edges g) o)) is p)

caller_is : (edges : List Edge) (g e : ℕ) (y : Edge) → stands_on (leaving edges g) e ≡ true → slice_get edges e ≡ Some y → y.from ≡ g
caller_is edges g e y on here = let x = leaving_edge edges g e on in (let same : x.0 ≡ y = (let a = x.1 in cc) in ap (λ (z : Edge). z.from) (sym same) ∙ x.2)

pub edge-requires : goal.edge-requires
edge-requires c = leaving_within _ c.args.g c.in-Some.e (if_some _ _ _ c.in-Some.is c.loop-at.invariant.0)

pub loop-at-preserved : goal.loop-at-preserved
loop-at-preserved c =
    let on = if_some _ _ _ c.in-Some.is c.loop-at.invariant.0 in
    let from = caller_is _ c.args.g c.in-Some.e c.edge.result on c.edge.ensures.is in (
      c.next_call-next.ensures.on c.args.g on,
      (λ told p. visited _ _ _ _ _ told c.in-Some.e _ c.edge.result c.edge.ensures.is (at_edge _ _ _ _ _ told c.args.g _ _ c.in-Some.e c.in-Some.is (c.next_call-next.ensures.rest c.args.g on) (c.loop-at.invariant.1 told p))
          (ap (slice_get c.loop-at.marks.items) from ∙ c.loop-at.invariant.2) c.edge.ensures.to _ _ c.in_ok-visit.ensures),
      visit_keeps _ _ _ _ _ _ c.in_ok-visit.ensures c.loop-at.invariant.2,
    )

pub returns : goal.returns
returns c = λ told p. subst (λ (o : Option ℕ). IsReaching (length c.args.graph.now.frames.items) c.args.graph.now.edges.items c.args.entry c.loop-at.marks.items c.loop-at.order.items told (rest_of (leaving c.args.graph.now.edges.items c.args.g) o)) c.in_default.is (c.loop-at.invariant.1 told p)
