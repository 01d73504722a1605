use Rattle.spu_graph.proofs.Numbers.{leaving_within, if_some}
use Rattle.spu_graph.proofs.Walking.{passed_more}
use Rattle.std.proofs.Common.{◌≡◌, subst, ◌⊎◌, true, ℕ, Option}
use Rattle.spu_word.specs.Lists.{stands_on}
use Rattle.spu_graph.specs.Edges.{leaving, rest_of}
use Rattle.spu_graph.specs.Peeling.{IsClosed}
use Rattle.spu_graph.proofs.peel.waiting.Goals as goal

pub is_open-requires-clause-e : goal.is_open-requires-clause-e
is_open-requires-clause-e c = leaving_within _ c.args.f c.in-Some.e (if_some _ _ _ c.in-Some.is c.loop-at.invariant.0)

pub loop-at-preserved : goal.loop-at-preserved
loop-at-preserved c =
    let on = if_some _ _ _ c.in-Some.is c.loop-at.invariant.0 in (
      c.next_call-at.ensures.on c.args.f on,
      λ k there. passed_more _ _ _ c.in-Some.e c.next_call-at.result (c.next_call-at.ensures.rest c.args.f on) (c.is_open.ensures.closed c.if-is_open.false) k
          (subst (λ (o : Option ℕ). IsClosed c.args.graph.now.edges.items c.args.needs.now k ⊎ (stands_on (rest_of (leaving c.args.graph.now.edges.items c.args.f) o) k ≡ true)) c.in-Some.is (c.loop-at.invariant.1 k there)),
    )
