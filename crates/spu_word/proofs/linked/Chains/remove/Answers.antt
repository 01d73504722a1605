use Rattle.std.proofs.Common.{arith, true, ◌≡◌, ℕ, List, get_or, Some, refl, sym, ◌∙◌, ap, subst}
use Rattle.std.specs.Prelude.{slice_get}
use Rattle.std.proofs.lemmas.Option.{slice_get_read}
use Rattle.spu_word.specs.declared.linked.Slot.{Slot}
use Rattle.spu_word.specs.declared.linked.Ends.{Ends}
use Rattle.spu_word.specs.Lists.{slots_on, stands_on, IsLinked}
use Rattle.spu_word.specs.Linking.{slots_without}
use Rattle.spu_word.proofs.Reading.{stands_within, not_on_none}
use Rattle.spu_word.proofs.Removal.{placed, list_within, slot_within, previous_within, next_within, out_linked, out_lists}
use Rattle.spu_word.proofs.linked.Chains.remove.Goals as goal

pub index-requires : goal.index-requires
index-requires c = let lt = stands_within _ _ c.args.self.now.linked c.requires.0 c.args.slot c.requires.1 in let same = c.args.self.now.slots.ok in omega (arith, lt, same)

-- the slot's record, and its place on the list that it names
here : (slots : List Slot) (ends : List Ends) → IsLinked slots ends (slots_on slots ends) → (m s : ℕ) → stands_on (slots_on slots ends m) s ≡ true → (x : Slot) → x ≡ get_or slots s x → slice_get slots s ≡ Some x
here slots ends linked m s on x is = slice_get_read slots _ s x refl (stands_within slots ends linked m s on) is

place : (slots : List Slot) (ends : List Ends) → IsLinked slots ends (slots_on slots ends) → (m l s : ℕ) → stands_on (slots_on slots ends m) s ≡ true → (x : Slot) → x ≡ get_or slots s x → x.list ≡ Some l → (k : ℕ) × (slice_get (slots_on slots ends l) k ≡ Some s)
place slots ends linked m l s on x is list = placed slots ends linked m l s x on (here slots ends linked m s on x is) list

pub link_out-requires-clause-list : goal.link_out-requires-clause-list
link_out-requires-clause-list c =
    let at = place _ _ c.args.self.now.linked c.requires.0 c.in-Some.list c.args.slot c.requires.1 c.index.result.now c.index.ensures c.in-Some.is in
    list_within _ _ _ c.args.self.now.linked c.in-Some.list at.0 c.args.slot at.1

pub link_out-requires-clause-slot : goal.link_out-requires-clause-slot
link_out-requires-clause-slot c =
    let at = place _ _ c.args.self.now.linked c.requires.0 c.in-Some.list c.args.slot c.requires.1 c.index.result.now c.index.ensures c.in-Some.is in
    slot_within _ _ _ c.args.self.now.linked c.in-Some.list at.0 c.args.slot at.1

pub link_out-requires-clause-previous : goal.link_out-requires-clause-previous
link_out-requires-clause-previous c =
    let at = place _ _ c.args.self.now.linked c.requires.0 c.in-Some.list c.args.slot c.requires.1 c.index.result.now c.index.ensures c.in-Some.is in
    previous_within _ _ _ c.args.self.now.linked c.in-Some.list at.0 c.args.slot at.1

pub link_out-requires-clause-next : goal.link_out-requires-clause-next
link_out-requires-clause-next c =
    let at = place _ _ c.args.self.now.linked c.requires.0 c.in-Some.list c.args.slot c.requires.1 c.index.result.now c.index.ensures c.in-Some.is in
    next_within _ _ _ c.args.self.now.linked c.in-Some.list at.0 c.args.slot at.1

pub invariant_of-self : goal.invariant_of-self
invariant_of-self c =
    let at = place _ _ c.args.self.now.linked c.requires.0 c.in-Some.list c.args.slot c.requires.1 c.index.result.now c.index.ensures c.in-Some.is in
    let linked = out_linked _ _ c.args.self.now.linked c.in-Some.list at.0 c.args.slot at.1 in
    let by_ends = subst (λ (z : List Ends). IsLinked (slots_without c.args.self.now.slots.items c.args.slot) z (slots_on (slots_without c.args.self.now.slots.items c.args.slot) z)) (sym c.link_out.ensures.ends) linked in
    record { linked = subst (λ (z : List Slot). IsLinked z c.link_out.new.ends.items (slots_on z c.link_out.new.ends.items)) (sym c.link_out.ensures.slots) by_ends }

pub returns-in-Some-clause-lists : goal.returns-in-Some-clause-lists
returns-in-Some-clause-lists c = λ m.
    let at = place _ _ c.args.self.now.linked c.requires.0 c.in-Some.list c.args.slot c.requires.1 c.index.result.now c.index.ensures c.in-Some.is in
    ap (λ (z : List Slot). slots_on z c.link_out.new.ends.items m) c.link_out.ensures.slots
    ∙ ap (λ (z : List Ends). slots_on (slots_without c.args.self.now.slots.items c.args.slot) z m) c.link_out.ensures.ends
    ∙ out_lists _ _ c.args.self.now.linked c.in-Some.list at.0 c.args.slot at.1 m

pub returns-in-None-clause-lists : goal.returns-in-None-clause-lists
returns-in-None-clause-lists c = λ m.
    let read = here _ _ c.args.self.now.linked c.requires.0 c.args.slot c.requires.1 c.index.result.now c.index.ensures in
    let on = c.requires.1 in
    absurd (not_on_none _ _ c.args.self.now.linked c.requires.0 c.args.slot c.index.result.now read c.in-None.is on)
