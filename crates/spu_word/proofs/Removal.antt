-- A slot that is linked out of its list.
use Rattle.std.proofs.Common.{◌≡◌, ℕ, zero, suc, ◌<◌, ◌≤◌, ◌⊎◌, inl, inr, true, List, length, set, Option, Some, None, IfSome, refl, sym, ap, ◌∙◌, subst, arith}
use Rattle.std.specs.Prelude.{slice_get, slice_index_or}
use Rattle.spu_word.specs.declared.linked.Slot.{Slot}
use Rattle.spu_word.specs.declared.linked.Ends.{Ends}
use Rattle.spu_word.specs.Lists.{stands_on, without, before, slot_on, ends_of, IsLinked, slots_on}
use Rattle.spu_word.specs.Linking.{free, modify_some, modify_none, with_next, with_previous, with_first, with_last, slots_without, ends_without}
use Rattle.spu_word.proofs.Places.{nat_equal, less_or, get_set_same, get_set_other, get_within, get_some, get_none, get_or_get, place_stands, cut, get_cut_before, get_cut_after, before_cut_before, before_cut_after, length_cut, without_absent, without_cut, stands_without}
use Rattle.spu_word.proofs.Links.{some_slot, same_list, once, on_within, lists_are, own}
use Rattle.spu_word.proofs.Adding.{modify_other, modify_same, length_modify, modify_list, ends_other, length_ends, unless, ends_same}

module _ (slots : List Slot) (ends : List Ends) (lists : ℕ → List ℕ) (linked : IsLinked slots ends lists) (l k s : ℕ) (here : slice_get (lists l) k ≡ Some s) where
  slot_is : slice_index_or slots s free ≡ slot_on l (lists l) k
  slot_is = get_or_get slots s _ free (linked.places l k s here)

  pub list_within : l < length ends
  list_within = by_count (less_or l (length ends))
    where
      by_count : (l < length ends) ⊎ (length ends ≤ l) → l < length ends
      by_count (inl lt) = lt
      by_count (inr le) = let none = ap (λ (z : List ℕ). slice_get z k) (linked.beyond l le) in absurd (cc)

  pub slot_within : s < length slots
  slot_within = on_within slots ends lists linked l k s here

  before_place : (n t : ℕ) → before (lists l) n ≡ Some t → (i : ℕ) × (suc i ≡ n) × (slice_get (lists l) i ≡ Some t)
  before_place zero t e = absurd (cc)
  before_place (suc i) t e = (i, refl, e)

  pub previous_within : IfSome (slice_index_or slots s free).previous (λ t. t < length slots)
  previous_within = subst (λ (x : Slot). IfSome x.previous (λ t. t < length slots)) (sym slot_is) (by_before (before (lists l) k) refl)
    where
      by_before : (o : Option ℕ) → before (lists l) k ≡ o → IfSome o (λ t. t < length slots)
      by_before None e = tt
      by_before (Some t) e = let b = before_place k t e in on_within slots ends lists linked l b.0 t b.2

  pub next_within : IfSome (slice_index_or slots s free).next (λ t. t < length slots)
  next_within = subst (λ (x : Slot). IfSome x.next (λ t. t < length slots)) (sym slot_is) (by_next (slice_get (lists l) (suc k)) refl)
    where
      by_next : (o : Option ℕ) → slice_get (lists l) (suc k) ≡ o → IfSome o (λ t. t < length slots)
      by_next None e = tt
      by_next (Some t) e = on_within slots ends lists linked l (suc k) t e

  -- the slots with the neighbours linked
  abbrev first_change : List Slot
  first_change = modify_some (with_next (slice_get (lists l) (suc k))) slots (before (lists l) k)

  abbrev second_change : List Slot
  second_change = modify_some (with_previous (before (lists l) k)) (modify_some (with_next (slice_get (lists l) (suc k))) slots (before (lists l) k)) (slice_get (lists l) (suc k))

  slots_are : slots_without slots s ≡ set second_change s free
  slots_are = ap (λ (x : Slot). set (modify_some (with_previous x.previous) (modify_some (with_next x.next) slots x.previous) x.next) s free) slot_is

  length_are : length second_change ≡ length slots
  length_are = length_modify (with_previous (before (lists l) k)) first_change (slice_get (lists l) (suc k)) ∙ length_modify (with_next (slice_get (lists l) (suc k))) slots (before (lists l) k)

  free_slot : slice_get (slots_without slots s) s ≡ Some free
  free_slot = let within = slot_within in let same = length_are in ap (λ (z : List Slot). slice_get z s) slots_are ∙ get_set_same second_change s free (omega (arith, within, same))

  old_slot : (t : ℕ) → (t ≡ s → ⊥) → slice_get (slots_without slots s) t ≡ slice_get second_change t
  old_slot t ne = ap (λ (z : List Slot). slice_get z t) slots_are ∙ get_set_other second_change s t free ne

  -- neither neighbour
  kept_slot : (t : ℕ) → (before (lists l) k ≡ Some t → ⊥) → (slice_get (lists l) (suc k) ≡ Some t → ⊥) → slice_get second_change t ≡ slice_get slots t
  kept_slot t a b = modify_other (with_previous (before (lists l) k)) first_change (slice_get (lists l) (suc k)) t b ∙ modify_other (with_next (slice_get (lists l) (suc k))) slots (before (lists l) k) t a

  not_before : (i t : ℕ) → slice_get (lists l) i ≡ Some t → (suc i ≡ k → ⊥) → before (lists l) k ≡ Some t → ⊥
  not_before i t at ne e = let b = before_place k t e in let one = once slots ends lists linked l i b.0 t at b.2 in ne (ap suc one ∙ b.1)

  not_after : (i t : ℕ) → slice_get (lists l) i ≡ Some t → (i ≡ suc k → ⊥) → slice_get (lists l) (suc k) ≡ Some t → ⊥
  not_after i t at ne e = ne (once slots ends lists linked l i (suc k) t at e)

  abbrev row : Option ℕ → Option ℕ → Slot
  row a b = record { list = Some l; previous = a; next = b }

  slot_equal : (a b c d : Option ℕ) → a ≡ c → b ≡ d → Some (row a b) ≡ Some (row c d)
  slot_equal a b c d e f = ap (λ o. Some (row o b)) e ∙ ap (λ o. Some (row c o)) f

  own_before : (j t : ℕ) → j < k → slice_get (lists l) j ≡ Some t → slice_get second_change t ≡ Some (slot_on l (cut k (lists l)) j)
  own_before j t lt at = by_place (nat_equal (suc j) k)
    where
      by_place : (suc j ≡ k) ⊎ (suc j ≡ k → ⊥) → slice_get second_change t ≡ Some (slot_on l (cut k (lists l)) j)
      by_place (inl e) =
          modify_other (with_previous (before (lists l) k)) first_change (slice_get (lists l) (suc k)) t (not_after j t at (λ q. omega (arith, q, lt)))
          ∙ modify_same (with_next (slice_get (lists l) (suc k))) slots (before (lists l) k) t _ (ap (before (lists l)) (sym e) ∙ at) (linked.places l j t at)
          ∙ slot_equal _ _ _ _ (sym (before_cut_before k (lists l) j (omega (arith, lt)))) (ap (λ q. slice_get (lists l) (suc q)) (sym e) ∙ sym (get_cut_after k (lists l) (suc j) (omega (arith, e))))
      by_place (inr ne) =
          kept_slot t (not_before j t at ne) (not_after j t at (λ q. omega (arith, q, lt)))
          ∙ linked.places l j t at
          ∙ slot_equal _ _ _ _ (sym (before_cut_before k (lists l) j (omega (arith, lt)))) (sym (get_cut_before k (lists l) (suc j) (omega (arith, lt, ne))))

  own_after : (j t : ℕ) → k ≤ j → slice_get (lists l) (suc j) ≡ Some t → slice_get second_change t ≡ Some (slot_on l (cut k (lists l)) j)
  own_after j t le at = by_place (nat_equal j k)
    where
      by_place : (j ≡ k) ⊎ (j ≡ k → ⊥) → slice_get second_change t ≡ Some (slot_on l (cut k (lists l)) j)
      by_place (inl e) =
          modify_same (with_previous (before (lists l) k)) first_change (slice_get (lists l) (suc k)) t _ (ap (λ q. slice_get (lists l) (suc q)) (sym e) ∙ at)
          (modify_other (with_next (slice_get (lists l) (suc k))) slots (before (lists l) k) t (not_before (suc j) t at (λ q. omega (arith, q, le))) ∙ linked.places l (suc j) t at)
          ∙ slot_equal _ _ _ _ (ap (before (lists l)) (sym e) ∙ sym (before_cut_before k (lists l) j (omega (arith, e)))) (sym (get_cut_after k (lists l) (suc j) (omega (arith, le))))
      by_place (inr ne) =
          kept_slot t (not_before (suc j) t at (λ q. omega (arith, q, le))) (not_after (suc j) t at (λ q. ne (omega (arith, q))))
          ∙ linked.places l (suc j) t at
          ∙ slot_equal _ _ _ _ (sym (before_cut_after k (lists l) j (omega (arith, le, ne)))) (sym (get_cut_after k (lists l) (suc j) (omega (arith, le))))

  own_without : without s (lists l) ≡ cut k (lists l)
  own_without = without_cut (lists l) k s here (λ j at. once slots ends lists linked l j k s at here)

  own_places : (j t : ℕ) → slice_get (cut k (lists l)) j ≡ Some t → slice_get (slots_without slots s) t ≡ Some (slot_on l (cut k (lists l)) j)
  own_places j t at = by_place (less_or j k)
    where
      by_place : (j < k) ⊎ (k ≤ j) → slice_get (slots_without slots s) t ≡ Some (slot_on l (cut k (lists l)) j)
      by_place (inl lt) =
          let old = sym (get_cut_before k (lists l) j lt) ∙ at in
          old_slot t (λ e. (let one = once slots ends lists linked l j k s (old ∙ ap Some e) here in omega (arith, one, lt))) ∙ own_before j t lt old
      by_place (inr le) =
          let old = sym (get_cut_after k (lists l) j le) ∙ at in
          old_slot t (λ e. (let one = once slots ends lists linked l (suc j) k s (old ∙ ap Some e) here in omega (arith, one, le))) ∙ own_after j t le old

  other_without : (m : ℕ) → (m ≡ l → ⊥) → without s (lists m) ≡ lists m
  other_without m ne = without_absent (lists m) s (λ j at. ne (same_list slots ends lists linked m l j k s at here))

  other_places : (m j t : ℕ) → (m ≡ l → ⊥) → slice_get (lists m) j ≡ Some t → slice_get (slots_without slots s) t ≡ Some (slot_on m (lists m) j)
  other_places m j t ne at =
      old_slot t (λ e. ne (same_list slots ends lists linked m l j k s (at ∙ ap Some e) here))
      ∙ kept_slot t (λ e. (let b = before_place k t e in ne (same_list slots ends lists linked m l j b.0 t at b.2))) (λ e. ne (same_list slots ends lists linked m l j (suc k) t at e))
      ∙ linked.places m j t at

  places_less : (m j t : ℕ) → slice_get (without s (lists m)) j ≡ Some t → slice_get (slots_without slots s) t ≡ Some (slot_on m (without s (lists m)) j)
  places_less m j t at = by_list (nat_equal m l)
    where
      by_list : (m ≡ l) ⊎ (m ≡ l → ⊥) → slice_get (slots_without slots s) t ≡ Some (slot_on m (without s (lists m)) j)
      by_list (inl e) =
          let cuts : without s (lists m) ≡ cut k (lists l) = ap (λ v. without s (lists v)) e ∙ own_without in
          own_places j t (ap (λ (z : List ℕ). slice_get z j) (sym cuts) ∙ at) ∙ ap (λ v. Some (slot_on v (cut k (lists l)) j)) (sym e) ∙ ap (λ (z : List ℕ). Some (slot_on m z j)) (sym cuts)
      by_list (inr ne) =
          other_places m j t ne (ap (λ (z : List ℕ). slice_get z j) (sym (other_without m ne)) ∙ at) ∙ ap (λ (z : List ℕ). Some (slot_on m z j)) (sym (other_without m ne))

  -- ---- the ends

  abbrev first_ends : List Ends
  first_ends = modify_none (with_first (slice_get (lists l) (suc k))) ends l (before (lists l) k)

  ends_are : ends_without slots ends l s ≡ modify_none (with_last (before (lists l) k)) first_ends l (slice_get (lists l) (suc k))
  ends_are = ap (λ (x : Slot). modify_none (with_last x.previous) (modify_none (with_first x.next) ends l x.previous) l x.next) slot_is

  first_cut : (o : Option ℕ) → before (lists l) k ≡ o → unless (with_first (slice_get (lists l) (suc k))) o (ends_of (lists l)) ≡ record { first = slice_get (cut k (lists l)) 0; last = before (lists l) (length (lists l)) }
  first_cut None e = ap (λ q. record { first = q; last = before (lists l) (length (lists l)) }) (by_place k refl)
    where
      by_place : (n : ℕ) → n ≡ k → slice_get (lists l) (suc k) ≡ slice_get (cut k (lists l)) 0
      by_place zero z = ap (λ v. slice_get (lists l) (suc v)) (sym z) ∙ sym (get_cut_after 0 (lists l) 0 (omega arith)) ∙ ap (λ v. slice_get (cut v (lists l)) 0) z
      by_place (suc n) z =
          let within = get_within (lists l) k s here in
          let some = get_some (lists l) n (omega (arith, within, z)) in
          let is = some.1 in
          let none = ap (before (lists l)) z ∙ e in
          absurd (cc)
  first_cut (Some t) e = ap (λ q. record { first = q; last = before (lists l) (length (lists l)) }) (let b = before_place k t e in let is = b.1 in sym (get_cut_before k (lists l) 0 (omega (arith, is))))

  last_cut : (o : Option ℕ) → slice_get (lists l) (suc k) ≡ o → unless (with_last (before (lists l) k)) o (record { first = slice_get (cut k (lists l)) 0; last = before (lists l) (length (lists l)) }) ≡ ends_of (cut k (lists l))
  last_cut None e =
      let past = get_none (lists l) (suc k) e in
      let within = get_within (lists l) k s here in
      let one = length_cut k (lists l) within in
      ap (λ q. record { first = slice_get (cut k (lists l)) 0; last = q }) (sym (before_cut_before k (lists l) k (omega arith)) ∙ ap (before (cut k (lists l))) (omega (arith, past, within, one)))
  last_cut (Some t) e =
      let more = get_within (lists l) (suc k) t e in
      let one = length_cut k (lists l) (omega (arith, more)) in
      ap (λ q. record { first = slice_get (cut k (lists l)) 0; last = q }) (ap (before (lists l)) (sym one) ∙ sym (before_cut_after k (lists l) (length (cut k (lists l))) (omega (arith, more, one))))

  own_ends : slice_get (ends_without slots ends l s) l ≡ Some (ends_of (cut k (lists l)))
  own_ends =
      ap (λ (z : List Ends). slice_get z l) ends_are
      ∙ ends_same (with_last (before (lists l) k)) first_ends l (slice_get (lists l) (suc k)) _ (ends_same (with_first (slice_get (lists l) (suc k))) ends l (before (lists l) k) _ (linked.all l list_within))
      ∙ ap Some (ap (unless (with_last (before (lists l) k)) (slice_get (lists l) (suc k))) (first_cut (before (lists l) k) refl) ∙ last_cut (slice_get (lists l) (suc k)) refl)

  other_ends : (m : ℕ) → (m ≡ l → ⊥) → slice_get (ends_without slots ends l s) m ≡ slice_get ends m
  other_ends m ne =
      ap (λ (z : List Ends). slice_get z m) ends_are
      ∙ ends_other (with_last (before (lists l) k)) first_ends l (slice_get (lists l) (suc k)) m ne ∙ ends_other (with_first (slice_get (lists l) (suc k))) ends l (before (lists l) k) m ne

  ends_length : length (ends_without slots ends l s) ≡ length ends
  ends_length = ap length ends_are ∙ length_ends (with_last (before (lists l) k)) first_ends l (slice_get (lists l) (suc k)) ∙ length_ends (with_first (slice_get (lists l) (suc k))) ends l (before (lists l) k)

  pub linked_out : IsLinked (slots_without slots s) (ends_without slots ends l s) (λ m. without s (lists m))
  linked_out = record {
    places = places_less;
    all = λ m lt. by_list m (nat_equal m l) (let n = ends_length in omega (arith, lt, n));
    beyond = λ m le. ap (without s) (linked.beyond m (let n = ends_length in omega (arith, le, n)));
    held = λ t m x at on. by_slot t m x at on (nat_equal t s);
  }
    where
      by_list : (m : ℕ) → (m ≡ l) ⊎ (m ≡ l → ⊥) → m < length ends → slice_get (ends_without slots ends l s) m ≡ Some (ends_of (without s (lists m)))
      by_list m (inl e) lt = ap (slice_get (ends_without slots ends l s)) e ∙ own_ends ∙ ap (λ (z : List ℕ). Some (ends_of z)) (sym (ap (λ v. without s (lists v)) e ∙ own_without))
      by_list m (inr ne) lt = other_ends m ne ∙ linked.all m lt ∙ ap (λ (z : List ℕ). Some (ends_of z)) (sym (other_without m ne))

      by_slot : (t m : ℕ) (x : Slot) → slice_get (slots_without slots s) t ≡ Some x → x.list ≡ Some m → (t ≡ s) ⊎ (t ≡ s → ⊥) → stands_on (without s (lists m)) t ≡ true
      by_slot t m x at on (inl e) =
          let is = ap (λ (y : Slot). y.list) (some_slot _ _ (sym free_slot ∙ ap (slice_get (slots_without slots s)) (sym e) ∙ at)) in
          absurd (cc)
      by_slot t m x at on (inr ne) =
          let two = modify_list (with_previous (before (lists l) k)) (λ y. refl) first_change (slice_get (lists l) (suc k)) t x (sym (old_slot t ne) ∙ at) in
          let one = modify_list (with_next (slice_get (lists l) (suc k))) (λ y. refl) slots (before (lists l) k) t two.0 two.1 in
          stands_without (lists m) s t ne (linked.held t m one.0 one.1 (one.2 ∙ two.2 ∙ on))

  pub list_of_slot : (x : Slot) → slice_get slots s ≡ Some x → x.list ≡ Some l
  list_of_slot x at = ap (λ y. y.list) (some_slot _ _ (sym at ∙ linked.places l k s here))

-- ---- the same of the lists that slots and ends show

-- the place of a slot that stands on some list, from what its own record says
pub placed : (slots : List Slot) (ends : List Ends) → IsLinked slots ends (slots_on slots ends) → (m l s : ℕ) (x : Slot) → stands_on (slots_on slots ends m) s ≡ true → slice_get slots s ≡ Some x → x.list ≡ Some l → (k : ℕ) × (slice_get (slots_on slots ends l) k ≡ Some s)
placed slots ends linked m l s x on at list = place_stands (slots_on slots ends l) s (linked.held s l x at list)

pub out_linked : (slots : List Slot) (ends : List Ends) → IsLinked slots ends (slots_on slots ends) → (l k s : ℕ) → slice_get (slots_on slots ends l) k ≡ Some s → IsLinked (slots_without slots s) (ends_without slots ends l s) (slots_on (slots_without slots s) (ends_without slots ends l s))
out_linked slots ends linked l k s here = own (slots_without slots s) (ends_without slots ends l s) _ (linked_out slots ends (slots_on slots ends) linked l k s here)

pub out_lists : (slots : List Slot) (ends : List Ends) → IsLinked slots ends (slots_on slots ends) → (l k s : ℕ) → slice_get (slots_on slots ends l) k ≡ Some s → (m : ℕ) → slots_on (slots_without slots s) (ends_without slots ends l s) m ≡ without s (slots_on slots ends m)
out_lists slots ends linked l k s here m = lists_are (slots_without slots s) (ends_without slots ends l s) _ (linked_out slots ends (slots_on slots ends) linked l k s here) m
