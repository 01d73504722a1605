use Rattle.std.proofs.Common.{List, sym, ◌∙◌, ap, subst}
use Rattle.spu_word.specs.declared.linked.Slot.{Slot}
use Rattle.spu_word.specs.declared.linked.Ends.{Ends}
use Rattle.spu_word.specs.Lists.{slots_on, IsLinked}
use Rattle.spu_word.specs.Linking.{slots_with}
use Rattle.spu_word.proofs.Adding.{last_within, in_linked, in_lists}
use Rattle.spu_word.proofs.linked.Chains.append.Goals as goal

pub link_in-requires-clause-last : goal.link_in-requires-clause-last
link_in-requires-clause-last c = last_within _ _ c.args.self.now.linked c.args.list c.requires.list

pub invariant_of-self : goal.invariant_of-self
invariant_of-self c =
    let linked = in_linked _ _ c.args.self.now.linked c.args.list c.requires.list c.args.slot c.requires.slot c.requires.free in
    let by_ends = subst (λ (z : List Ends). IsLinked (slots_with c.args.self.now.slots.items c.args.self.now.ends.items c.args.list c.args.slot) z (slots_on (slots_with c.args.self.now.slots.items c.args.self.now.ends.items c.args.list c.args.slot) z)) (sym c.link_in.ensures.ends) linked in
    record { linked = subst (λ (z : List Slot). IsLinked z c.link_in.new.ends.items (slots_on z c.link_in.new.ends.items)) (sym c.link_in.ensures.slots) by_ends }

pub returns-clause-lists : goal.returns-clause-lists
returns-clause-lists c = λ l.
    ap (λ (z : List Slot). slots_on z c.link_in.new.ends.items l) c.link_in.ensures.slots
    ∙ ap (λ (z : List Ends). slots_on (slots_with c.args.self.now.slots.items c.args.self.now.ends.items c.args.list c.args.slot) z l) c.link_in.ensures.ends
    ∙ in_lists _ _ c.args.self.now.linked c.args.list c.requires.list c.args.slot c.requires.slot c.requires.free l
