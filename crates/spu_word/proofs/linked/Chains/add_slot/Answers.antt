use Rattle.std.proofs.Common.{sym, subst, ◌≡◌, List, length, false}
use Rattle.spu_word.specs.declared.linked.Slot.{Slot}
use Rattle.spu_word.specs.Lists.{slots_on, IsLinked, stands_on}
use Rattle.spu_word.proofs.Adding.{added_lists, added_free, added_either}
use Rattle.spu_word.proofs.linked.Chains.add_slot.Goals as goal

pub invariant_of-self : goal.invariant_of-self
invariant_of-self c = record { linked = subst (λ (z : List Slot). IsLinked z c.args.self.now.ends.items (slots_on z c.args.self.now.ends.items)) (sym c.push.ensures.items) (added_either _ _ _ c.args.self.now.linked) }

pub returns-clause-lists : goal.returns-clause-lists
returns-clause-lists c = λ l. subst (λ (z : List Slot). slots_on z c.args.self.now.ends.items l ≡ slots_on c.args.self.now.slots.items c.args.self.now.ends.items l) (sym c.in_ok-push.ensures.items) (added_lists _ _ c.args.self.now.linked l)

pub returns-clause-free : goal.returns-clause-free
returns-clause-free c = λ l. subst (λ (z : List Slot). stands_on (slots_on z c.args.self.now.ends.items l) (length c.args.self.now.slots.items) ≡ false) (sym c.in_ok-push.ensures.items) (added_free _ _ c.args.self.now.linked l)
