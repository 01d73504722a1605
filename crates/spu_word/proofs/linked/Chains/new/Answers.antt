use Rattle.std.proofs.Common.{List, sym, ◌∙◌, ap, subst, []}
use Rattle.spu_word.specs.declared.linked.Slot.{Slot}
use Rattle.spu_word.specs.declared.linked.Ends.{Ends}
use Rattle.spu_word.specs.Lists.{slots_on, IsLinked}
use Rattle.spu_word.proofs.Adding.{new_linked, new_lists}
use Rattle.spu_word.proofs.linked.Chains.new.Goals as goal

pub invariant_of-result : goal.invariant_of-result
invariant_of-result c =
    let by_ends = subst (λ (z : List Ends). IsLinked [] z (slots_on [] z)) (sym c.loop.invariant) (new_linked c.loop.counter) in
    record { linked = subst (λ (z : List Slot). IsLinked z c.loop.ends.items (slots_on z c.loop.ends.items)) (sym c.new.ensures.items) by_ends }

pub returns-clause-lists : goal.returns-clause-lists
returns-clause-lists c = λ l.
    ap (λ (z : List Slot). slots_on z c.loop.ends.items l) c.new.ensures.items
    ∙ ap (λ (z : List Ends). slots_on [] z l) c.loop.invariant ∙ new_lists c.loop.counter l
