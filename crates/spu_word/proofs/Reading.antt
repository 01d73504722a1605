-- What the fields of a slot tell of its list.
use Rattle.std.proofs.Common.{◌≡◌, ℕ, suc, ◌+◌, ◌<◌, true, false, List, length, Option, Some, None, MatchOption, IfSome, refl, sym, ap, ◌∙◌, arith}
use Rattle.std.specs.Prelude.{slice_get}
use Rattle.spu_word.specs.declared.linked.Slot.{Slot}
use Rattle.spu_word.specs.declared.linked.Ends.{Ends}
use Rattle.spu_word.specs.Lists.{stands_on, slot_on, ends_of, IsLinked, slots_on}
use Rattle.spu_word.proofs.Places.{get_within, place_stands, absent_place}
use Rattle.spu_word.proofs.Links.{on_within}

module _ (slots : List Slot) (ends : List Ends) (linked : IsLinked slots ends (slots_on slots ends)) where
  pub stands_within : (l s : ℕ) → stands_on (slots_on slots ends l) s ≡ true → s < length slots
  stands_within l s on = let at = place_stands (slots_on slots ends l) s on in on_within slots ends (slots_on slots ends) linked l at.0 s at.1

  -- what stands at an index of a list is a slot
  pub slot_at : (l k : ℕ) (o : Option ℕ) → o ≡ slice_get (slots_on slots ends l) k → IfSome o (λ s. s < length slots)
  slot_at l k None e = tt
  slot_at l k (Some s) e = on_within slots ends (slots_on slots ends) linked l k s (sym e)

  pub first_is : (l : ℕ) (x : Ends) → slice_get ends l ≡ Some x → x.first ≡ slice_get (slots_on slots ends l) 0
  first_is l x here =
      let same : x ≡ ends_of (slots_on slots ends l) = (let e = linked.all l (get_within ends l x here) in cc) in
      ap (λ (y : Ends). y.first) same

  pub next_is : (l k s : ℕ) → slice_get (slots_on slots ends l) k ≡ Some s → (x : Slot) → slice_get slots s ≡ Some x → x.next ≡ slice_get (slots_on slots ends l) (k + 1)
  next_is l k s at x here =
      let same : x ≡ slot_on l (slots_on slots ends l) k = (let e = linked.places l k s at in cc) in
      let one : suc k ≡ k + 1 = omega arith in
      ap (λ y. y.next) same ∙ ap (slice_get (slots_on slots ends l)) one

  pub list_is : (s : ℕ) (x : Slot) → slice_get slots s ≡ Some x → MatchOption x.list ((l : ℕ) → stands_on (slots_on slots ends l) s ≡ false) (λ l. stands_on (slots_on slots ends l) s ≡ true)
  list_is s x here = by_list x.list refl
    where
      by_list : (o : Option ℕ) → x.list ≡ o → MatchOption o ((l : ℕ) → stands_on (slots_on slots ends l) s ≡ false) (λ l. stands_on (slots_on slots ends l) s ≡ true)
      by_list None e = λ l. absent_place (slots_on slots ends l) s (λ k at. (let same : x ≡ slot_on l (slots_on slots ends l) k = (let p = linked.places l k s at in cc) in let list = ap (λ y. y.list) same in cc))
      by_list (Some l) e = linked.held s l x here e

  pub not_on_none : (m s : ℕ) (x : Slot) → slice_get slots s ≡ Some x → x.list ≡ None → stands_on (slots_on slots ends m) s ≡ true → ⊥
  not_on_none m s x here none on =
      let at = place_stands (slots_on slots ends m) s on in
      let p = linked.places m at.0 s at.1 in
      let same : x ≡ slot_on m (slots_on slots ends m) at.0 = cc in
      let list = ap (λ y. y.list) same in
      cc
