use Rattle.std.proofs.Common.{◌≡◌, ◌∙◌, ◌<◌, ℕ, List, length, get_or, Option, Some, sym, ap}
use Rattle.std.specs.Prelude.{slice_get}
use Rattle.std.proofs.lemmas.Option.{slice_get_read}
use Rattle.spu_graph.proofs.Cycles.{cycle_recursive}
use Rattle.spu_graph.proofs.Entries.{are_needs, not_recursive}
use Rattle.spu_graph.proofs.graph.Graph.needs.Goals as goal

done : (known : List (Option ℕ)) (n f : ℕ) (o : Option ℕ) (v : ℕ) → length known ≡ n → f < n → o ≡ get_or known f o → o ≡ Some v → slice_get known f ≡ Some (Some v)
done known n f o v all lt at is = slice_get_read known n f o (sym all) lt at ∙ ap Some is

pub returns-in_ok-reach-in-Some-clause-needs : goal.returns-in_ok-reach-in-Some-clause-needs
returns-in_ok-reach-in-Some-clause-needs c = are_needs _ _ c.args.entry _ c.in_ok-known.ensures _ c.in_ok-reach-in-Some.ensures
    (c.in-Some.field-0, done _ _ c.args.entry c.index.result.now c.in-Some.field-0 c.in_ok-known.ensures.all c.requires c.index.ensures c.in-Some.is)

pub returns-in_ok-reach-in-Some-clause-acyclic : goal.returns-in_ok-reach-in-Some-clause-acyclic
returns-in_ok-reach-in-Some-clause-acyclic c = not_recursive _ _ c.args.entry _ c.in_ok-known.ensures
    (c.in-Some.field-0, done _ _ c.args.entry c.index.result.now c.in-Some.field-0 c.in_ok-known.ensures.all c.requires c.index.ensures c.in-Some.is)

pub returns-in_ok-cycle_from-in-None-clause-refused : goal.returns-in_ok-cycle_from-in-None-clause-refused
returns-in_ok-cycle_from-in-None-clause-refused c =
    let cycle = c.in_ok-cycle_from-in-None.ensures in
    (cycle_recursive _ c.args.entry c.in_ok-cycle_from-in-None.field-0 cycle, cycle)
