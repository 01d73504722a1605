-- Slots that are added, and slots that are linked in behind the last one of a list.
use Rattle.std.proofs.Common.{◌≡◌, ℕ, zero, suc, ◌<◌, ◌≤◌, ◌⊎◌, inl, inr, Bool, true, false, List, [], ◌∷◌, ◌++◌, length, set, get_or, Option, Some, None, IfSome, replicate, refl, sym, ap, ◌∙◌, subst, arith}
use Rattle.std.specs.Prelude.{slice_get, if◌then◌else◌, ◌==◌, slice_index_or}
use Rattle.std.proofs.lemmas.Bool.{ne_eqb, eqb-true, eq-eqb, cond-false}
use Rattle.std.proofs.lemmas.List.{length-set}
use Rattle.spu_word.specs.declared.linked.Slot.{Slot}
use Rattle.spu_word.specs.declared.linked.Ends.{Ends}
use Rattle.spu_word.specs.Lists.{stands_on, before, slot_on, ends_of, IsLinked, slots_on}
use Rattle.spu_word.specs.Linking.{free, empty, modify_some, modify_none, with_next, with_first, with_last, slots_with, ends_with}
use Rattle.spu_word.proofs.Places.{nat_equal, less_or, get_set_same, get_set_other, get_within, get_some, get_past, get_or_get, get_more_before, get_more_last, length_more, before_more, stands_place, absent_place, place_absent, stands_more}
use Rattle.spu_word.proofs.Links.{some_slot, some_number, same_list, once, on_within, lists_are, own}

-- ---- a slot more, on no list

-- where an element of a list with one more stands
pub more_places : {X : Type 0} (xs : List X) (y : X) (i : ℕ) (x : X) → slice_get (xs ++ y ∷ []) i ≡ Some x → (slice_get xs i ≡ Some x) ⊎ ((i ≡ length xs) × (x ≡ y))
more_places xs y i x e = by_place (less_or i (length xs))
  where
    by_place : (i < length xs) ⊎ (length xs ≤ i) → (slice_get xs i ≡ Some x) ⊎ ((i ≡ length xs) × (x ≡ y))
    by_place (inl lt) = inl (sym (get_more_before xs y i lt) ∙ e)
    by_place (inr le) =
        let within = get_within (xs ++ y ∷ []) i x e in
        let one = length_more xs y in
        let here : i ≡ length xs = omega (arith, le, within, one) in
        let last = get_more_last xs y i here in
        inr (here, cc)

module _ (slots : List Slot) (ends : List Ends) (lists : ℕ → List ℕ) (linked : IsLinked slots ends lists) where
  pub added : IsLinked (slots ++ free ∷ []) ends lists
  added = record {
    places = λ l k s at. get_more_before slots free s (on_within slots ends lists linked l k s at) ∙ linked.places l k s at;
    all = linked.all;
    beyond = linked.beyond;
    held = λ s l x at list. elim (more_places slots free s x at) as (λ q. stands_on (lists l) s ≡ true) [ inl old ↦ linked.held s l x old list | inr new ↦ (let e = ap (λ (y : Slot). y.list) new.1 in cc) ];
  }

pub added_lists : (slots : List Slot) (ends : List Ends) → IsLinked slots ends (slots_on slots ends) → (l : ℕ) → slots_on (slots ++ free ∷ []) ends l ≡ slots_on slots ends l
added_lists slots ends linked l = lists_are (slots ++ free ∷ []) ends (slots_on slots ends) (added slots ends (slots_on slots ends) linked) l

pub added_linked : (slots : List Slot) (ends : List Ends) → IsLinked slots ends (slots_on slots ends) → IsLinked (slots ++ free ∷ []) ends (slots_on (slots ++ free ∷ []) ends)
added_linked slots ends linked = own (slots ++ free ∷ []) ends (slots_on slots ends) (added slots ends (slots_on slots ends) linked)

pub added_free : (slots : List Slot) (ends : List Ends) → IsLinked slots ends (slots_on slots ends) → (l : ℕ) → stands_on (slots_on (slots ++ free ∷ []) ends l) (length slots) ≡ false
added_free slots ends linked l =
    ap (λ (z : List ℕ). stands_on z (length slots)) (added_lists slots ends linked l)
    ∙ absent_place (slots_on slots ends l) (length slots) (λ k at. (let lt = on_within slots ends (slots_on slots ends) linked l k (length slots) at in omega (arith, lt)))

-- where memory may run out
pub added_either : (ok : Bool) (slots : List Slot) (ends : List Ends) → IsLinked slots ends (slots_on slots ends) → IsLinked (if ok then slots ++ free ∷ [] else slots) ends (slots_on (if ok then slots ++ free ∷ [] else slots) ends)
added_either true slots ends linked = added_linked slots ends linked
added_either false slots ends linked = linked

-- ---- a change of one slot's neighbour

-- whether an optional number is this one
abbrev pub at : Option ℕ → ℕ → Bool
at None t = false
at (Some s) t = t == s

pub at_other : (o : Option ℕ) (t : ℕ) → (o ≡ Some t → ⊥) → at o t ≡ false
at_other None t ne = refl
at_other (Some s) t ne = ne_eqb t s (λ e. ne (ap Some (sym e)))

pub at_same : (o : Option ℕ) (t : ℕ) → o ≡ Some t → at o t ≡ true
at_same None t e = absurd (cc)
at_same (Some s) t e = eq-eqb t s (cc)

pub modify_other : (f : Slot → Slot) (xs : List Slot) (o : Option ℕ) (t : ℕ) → (o ≡ Some t → ⊥) → slice_get (modify_some f xs o) t ≡ slice_get xs t
modify_other f xs None t ne = refl
modify_other f xs (Some s) t ne = get_set_other xs s t _ (λ e. ne (ap Some (sym e)))

pub modify_same : (f : Slot → Slot) (xs : List Slot) (o : Option ℕ) (t : ℕ) (x : Slot) → o ≡ Some t → slice_get xs t ≡ Some x → slice_get (modify_some f xs o) t ≡ Some (f x)
modify_same f xs None t x e here = absurd (cc)
modify_same f xs (Some s) t x e here =
    let same : s ≡ t = some_number s t e in
    subst (λ v. slice_get (set xs v (f (get_or xs v free))) t ≡ Some (f x)) (sym same)
    (get_set_same xs t (f (get_or xs t free)) (get_within xs t x here) ∙ ap (λ y. Some (f y)) (get_or_get xs t x free here))

pub length_modify : (f : Slot → Slot) (xs : List Slot) (o : Option ℕ) → length (modify_some f xs o) ≡ length xs
length_modify f xs None = refl
length_modify f xs (Some s) = length-set xs s _

pub optional_equal : (o : Option ℕ) (t : ℕ) → (o ≡ Some t) ⊎ (o ≡ Some t → ⊥)
optional_equal None t = inr (λ e. cc)
optional_equal (Some s) t = elim (nat_equal s t) as (λ q. (Some s ≡ Some t) ⊎ (Some s ≡ Some t → ⊥)) [ inl e ↦ inl (ap Some e) | inr ne ↦ inr (λ e. ne (some_number s t e)) ]

-- a change that keeps the slots' lists
pub modify_list : (f : Slot → Slot) → ((x : Slot) → (f x).list ≡ x.list) → (xs : List Slot) (o : Option ℕ) (t : ℕ) (x : Slot) → slice_get (modify_some f xs o) t ≡ Some x → (y : Slot) × (slice_get xs t ≡ Some y) × (y.list ≡ x.list)
modify_list f keeps xs o t x e = by_place (optional_equal o t)
  where
    by_old : (o ≡ Some t) → (y : Slot) × (slice_get xs t ≡ Some y) → (y : Slot) × (slice_get xs t ≡ Some y) × (y.list ≡ x.list)
    by_old is (y, here) =
        let now = modify_same f xs o t y is here in
        (y, here, sym (keeps y) ∙ ap (λ z. z.list) (some_slot _ _ (sym now ∙ e)))

    by_place : (o ≡ Some t) ⊎ (o ≡ Some t → ⊥) → (y : Slot) × (slice_get xs t ≡ Some y) × (y.list ≡ x.list)
    by_place (inr ne) = (x, sym (modify_other f xs o t ne) ∙ e, refl)
    by_place (inl is) =
        let within = get_within (modify_some f xs o) t x e in
        let same = length_modify f xs o in
        by_old is (get_some xs t (omega (arith, within, same)))

-- ---- a change of a list's ends

pub ends_other : (f : Ends → Ends) (es : List Ends) (l : ℕ) (o : Option ℕ) (m : ℕ) → (m ≡ l → ⊥) → slice_get (modify_none f es l o) m ≡ slice_get es m
ends_other f es l None m ne = get_set_other es l m _ ne
ends_other f es l (Some s) m ne = refl

pub length_ends : (f : Ends → Ends) (es : List Ends) (l : ℕ) (o : Option ℕ) → length (modify_none f es l o) ≡ length es
length_ends f es l None = length-set es l _
length_ends f es l (Some s) = refl

abbrev pub unless : (Ends → Ends) → Option ℕ → Ends → Ends
unless f None x = f x
unless f (Some s) x = x

pub ends_same : (f : Ends → Ends) (es : List Ends) (l : ℕ) (o : Option ℕ) (x : Ends) → slice_get es l ≡ Some x → slice_get (modify_none f es l o) l ≡ Some (unless f o x)
ends_same f es l None x here = get_set_same es l _ (get_within es l x here) ∙ ap (λ y. Some (f y)) (get_or_get es l x empty here)
ends_same f es l (Some s) x here = here

-- ---- linking in

module _ (slots : List Slot) (ends : List Ends) (lists : ℕ → List ℕ) (linked : IsLinked slots ends lists) (l s : ℕ) (list : l < length ends) (slot : s < length slots) (off : (m : ℕ) → stands_on (lists m) s ≡ false) where
  xs : List ℕ
  xs = lists l

  with_more : ℕ → List ℕ
  with_more m = if m == l then lists m ++ s ∷ [] else lists m

  last_is : (slice_index_or ends l empty).last ≡ before (lists l) (length (lists l))
  last_is = ap (λ e. e.last) (get_or_get ends l _ empty (linked.all l list))

  -- the slots after the change of the last one's next
  led : List Slot
  unfolding xs
  led = modify_some (with_next (Some s)) slots (before (lists l) (length (lists l)))

  slots_are : slots_with slots ends l s ≡ set led s (record { list = Some l; previous = before (lists l) (length (lists l)); next = None })
  unfolding led
  slots_are = ap (λ o. set (modify_some (with_next (Some s)) slots o) s (record { list = Some l; previous = o; next = None })) last_is

  not_slot : (m k t : ℕ) → slice_get (lists m) k ≡ Some t → t ≡ s → ⊥
  not_slot m k t at e = place_absent (lists m) s k (off m) (at ∙ ap Some e)

  before_place : (n : ℕ) (t : ℕ) → before (lists l) n ≡ Some t → (i : ℕ) × (suc i ≡ n) × (slice_get (lists l) i ≡ Some t)
  before_place zero t e = absurd (cc)
  before_place (suc i) t e = (i, refl, e)

  -- a slot that stood on a list before
  old_slot : (t : ℕ) → (t ≡ s → ⊥) → slice_get (slots_with slots ends l s) t ≡ slice_get (modify_some (with_next (Some s)) slots (before (lists l) (length (lists l)))) t
  unfolding led
  old_slot t ne = ap (λ (z : List Slot). slice_get z t) slots_are ∙ get_set_other led s t _ ne

  new_slot : slice_get (slots_with slots ends l s) s ≡ Some (record { list = Some l; previous = before (lists l) (length (lists l)); next = None })
  unfolding led
  new_slot =
      let same = length_modify (with_next (Some s)) slots (before (lists l) (length (lists l))) in
      ap (λ (z : List Slot). slice_get z s) slots_are ∙ get_set_same led s _ (omega (arith, same, slot))

  other_places : (m k t : ℕ) → (m ≡ l → ⊥) → slice_get (lists m) k ≡ Some t → slice_get (slots_with slots ends l s) t ≡ Some (slot_on m (lists m) k)
  other_places m k t ne at =
      old_slot t (not_slot m k t at)
      ∙ modify_other (with_next (Some s)) slots (before (lists l) (length (lists l))) t (λ e. (let b = before_place (length (lists l)) t e in ne (same_list slots ends lists linked m l k b.0 t at b.2)))
      ∙ linked.places m k t at

  own_places : (k t : ℕ) → slice_get (lists l ++ s ∷ []) k ≡ Some t → slice_get (slots_with slots ends l s) t ≡ Some (slot_on l (lists l ++ s ∷ []) k)
  own_places k t at = by_place (more_places (lists l) s k t at)
    where
      n : ℕ
      n = length (lists l)

      by_last : slice_get (lists l) k ≡ Some t → (suc k ≡ length (lists l)) ⊎ (suc k ≡ length (lists l) → ⊥) → slice_get (modify_some (with_next (Some s)) slots (before (lists l) (length (lists l)))) t ≡ Some (slot_on l (lists l ++ s ∷ []) k)
      by_last old (inl e) =
          let within = get_within (lists l) k t old in
          modify_same (with_next (Some s)) slots (before (lists l) (length (lists l))) t _ (ap (before (lists l)) (sym e) ∙ old) (linked.places l k t old)
          ∙ ap Some (ap (λ o. record { list = Some l; previous = o; next = Some s }) (sym (before_more (lists l) s k (omega (arith, within)))) ∙ ap (λ o. record { list = Some l; previous = before (lists l ++ s ∷ []) k; next = o }) (sym (get_more_last (lists l) s (suc k) e)))
      by_last old (inr ne) =
          let within = get_within (lists l) k t old in
          modify_other (with_next (Some s)) slots (before (lists l) (length (lists l))) t (λ e. (let b = before_place (length (lists l)) t e in let one = once slots ends lists linked l k b.0 t old b.2 in ne (ap suc one ∙ b.1)))
          ∙ linked.places l k t old
          ∙ ap Some (ap (λ o. record { list = Some l; previous = o; next = slice_get (lists l) (suc k) }) (sym (before_more (lists l) s k (omega (arith, within)))) ∙ ap (λ o. record { list = Some l; previous = before (lists l ++ s ∷ []) k; next = o }) (sym (get_more_before (lists l) s (suc k) (omega (arith, within, ne)))))

      by_place : (slice_get (lists l) k ≡ Some t) ⊎ ((k ≡ length (lists l)) × (t ≡ s)) → slice_get (slots_with slots ends l s) t ≡ Some (slot_on l (lists l ++ s ∷ []) k)
      by_place (inl old) = old_slot t (not_slot l k t old) ∙ by_last old (nat_equal (suc k) (length (lists l)))
      by_place (inr (e, is)) =
          let past : slice_get (lists l ++ s ∷ []) (suc k) ≡ None = get_past (lists l ++ s ∷ []) (suc k) (let one = length_more (lists l) s in omega (arith, e, one)) in
          ap (slice_get (slots_with slots ends l s)) is ∙ new_slot
          ∙ ap Some (ap (λ o. record { list = Some l; previous = o; next = None }) (ap (before (lists l)) (sym e) ∙ sym (before_more (lists l) s k (omega (arith, e)))) ∙ ap (λ o. record { list = Some l; previous = before (lists l ++ s ∷ []) k; next = o }) (sym past))

  places_more : (m k t : ℕ) → slice_get (with_more m) k ≡ Some t → slice_get (slots_with slots ends l s) t ≡ Some (slot_on m (with_more m) k)
  unfolding with_more
  places_more m k t at = by_list (m == l) refl at
    where
      by_list : (b : Bool) → (m == l) ≡ b → slice_get (if b then lists m ++ s ∷ [] else lists m) k ≡ Some t → slice_get (slots_with slots ends l s) t ≡ Some (slot_on m (if b then lists m ++ s ∷ [] else lists m) k)
      by_list true e at =
          let same = eqb-true m l e in
          subst (λ v. slice_get (lists v ++ s ∷ []) k ≡ Some t → slice_get (slots_with slots ends l s) t ≡ Some (slot_on v (lists v ++ s ∷ []) k)) (sym same) (own_places k t) at
      by_list false e at = other_places m k t (λ is. (let f = eq-eqb m l is in cc)) at

  first_more : (ys : List ℕ) (x : Ends) → x ≡ ends_of ys → unless (with_first (Some s)) (before ys (length ys)) x ≡ record { first = slice_get (ys ++ s ∷ []) 0; last = before ys (length ys) }
  first_more [] x e = ap (with_first (Some s)) e
  first_more (y ∷ ys) x e = by_last (before (y ∷ ys) (length (y ∷ ys))) (get_some (y ∷ ys) (length ys) (omega arith))
    where
      by_last : (o : Option ℕ) → (z : ℕ) × (o ≡ Some z) → unless (with_first (Some s)) o x ≡ record { first = Some y; last = before (y ∷ ys) (length (y ∷ ys)) }
      by_last None (z, is) = absurd (cc)
      by_last (Some z) is = e

  own_ends : slice_get (ends_with ends l s) l ≡ Some (ends_of (lists l ++ s ∷ []))
  own_ends =
      let o = (slice_index_or ends l empty).last in
      let led_ends : List Ends = modify_none (with_first (Some s)) ends l o in
      let here = ends_same (with_first (Some s)) ends l o _ (linked.all l list) in
      let one = length_more (lists l) s in
      get_set_same led_ends l _ (get_within led_ends l _ here)
      ∙ ap (λ (z : Ends). Some (with_last (Some s) z)) (get_or_get led_ends l _ empty here ∙ ap (λ (q : Option ℕ). unless (with_first (Some s)) q (ends_of (lists l))) last_is ∙ first_more (lists l) _ refl)
      ∙ ap (λ q. Some (record { first = slice_get (lists l ++ s ∷ []) 0; last = q })) (sym (get_more_last (lists l) s (length (lists l)) refl) ∙ ap (before (lists l ++ s ∷ [])) (sym one))

  other_ends : (m : ℕ) → (m ≡ l → ⊥) → slice_get (ends_with ends l s) m ≡ slice_get ends m
  other_ends m ne = get_set_other (modify_none (with_first (Some s)) ends l (slice_index_or ends l empty).last) l m _ ne ∙ ends_other (with_first (Some s)) ends l (slice_index_or ends l empty).last m ne

  ends_length : length (ends_with ends l s) ≡ length ends
  ends_length = length-set (modify_none (with_first (Some s)) ends l (slice_index_or ends l empty).last) l _ ∙ length_ends (with_first (Some s)) ends l (slice_index_or ends l empty).last

  pub linked_in : IsLinked (slots_with slots ends l s) (ends_with ends l s) (λ m. if m == l then lists m ++ s ∷ [] else lists m)
  unfolding with_more
  linked_in = record {
    places = places_more;
    all = λ m lt. by_list m (m == l) refl (omega (arith, lt, ends_length));
    beyond = λ m le. cond-false _ _ _ (ne_eqb m l (λ e. (let n = ends_length in omega (arith, e, le, n, list)))) ∙ linked.beyond m (let n = ends_length in omega (arith, le, n));
    held = λ t m x at on. by_slot t m x at on (nat_equal t s);
  }
    where
      by_list : (m : ℕ) (b : Bool) → (m == l) ≡ b → m < length ends → slice_get (ends_with ends l s) m ≡ Some (ends_of (if b then lists m ++ s ∷ [] else lists m))
      by_list m true e lt = subst (λ v. slice_get (ends_with ends l s) v ≡ Some (ends_of (lists v ++ s ∷ []))) (sym (eqb-true m l e)) own_ends
      by_list m false e lt = other_ends m (λ is. (let f = eq-eqb m l is in cc)) ∙ linked.all m lt

      grown : (m t : ℕ) → stands_on (lists m) t ≡ true → (b : Bool) → stands_on (if b then lists m ++ s ∷ [] else lists m) t ≡ true
      grown m t on true = stands_more (lists m) s t on
      grown m t on false = on

      by_slot : (t m : ℕ) (x : Slot) → slice_get (slots_with slots ends l s) t ≡ Some x → x.list ≡ Some m → (t ≡ s) ⊎ (t ≡ s → ⊥) → stands_on (if m == l then lists m ++ s ∷ [] else lists m) t ≡ true
      by_slot t m x at on (inl e) =
          let is : Some l ≡ Some m = ap (λ y. y.list) (some_slot _ _ (sym new_slot ∙ ap (slice_get (slots_with slots ends l s)) (sym e) ∙ at)) ∙ on in
          let same : m ≡ l = sym (some_number l m is) in
          ap (λ b. stands_on (if b then lists m ++ s ∷ [] else lists m) t) (eq-eqb m l same)
          ∙ stands_place (lists m ++ s ∷ []) (length (lists m)) t (get_more_last (lists m) s (length (lists m)) refl ∙ ap Some (sym e))
      by_slot t m x at on (inr ne) =
          let old = modify_list (with_next (Some s)) (λ y. refl) slots (before (lists l) (length (lists l))) t x (sym (old_slot t ne) ∙ at) in
          grown m t (linked.held t m old.0 old.1 (old.2 ∙ on)) (m == l)

-- ---- the same of the lists that slots and ends show

module _ (slots : List Slot) (ends : List Ends) (linked : IsLinked slots ends (slots_on slots ends)) (l : ℕ) (list : l < length ends) where
  pub last_within : IfSome (slice_index_or ends l empty).last (λ s. s < length slots)
  last_within = by_last (slice_index_or ends l empty).last (ap (λ e. e.last) (get_or_get ends l _ empty (linked.all l list)))
    where
      placed : (n t : ℕ) → Some t ≡ before (slots_on slots ends l) n → t < length slots
      placed zero t e = absurd (cc)
      placed (suc i) t e = on_within slots ends (slots_on slots ends) linked l i t (sym e)

      by_last : (o : Option ℕ) → o ≡ before (slots_on slots ends l) (length (slots_on slots ends l)) → IfSome o (λ s. s < length slots)
      by_last None e = tt
      by_last (Some t) e = placed (length (slots_on slots ends l)) t e

  module _ (s : ℕ) (slot : s < length slots) (off : (m : ℕ) → stands_on (slots_on slots ends m) s ≡ false) where
    pub in_linked : IsLinked (slots_with slots ends l s) (ends_with ends l s) (slots_on (slots_with slots ends l s) (ends_with ends l s))
    in_linked = own (slots_with slots ends l s) (ends_with ends l s) _ (linked_in slots ends (slots_on slots ends) linked l s list slot off)

    pub in_lists : (m : ℕ) → slots_on (slots_with slots ends l s) (ends_with ends l s) m ≡ (if m == l then slots_on slots ends m ++ s ∷ [] else slots_on slots ends m)
    in_lists m = lists_are (slots_with slots ends l s) (ends_with ends l s) _ (linked_in slots ends (slots_on slots ends) linked l s list slot off) m

-- ---- no slot

get_replicate : {X : Type 0} (n : ℕ) (x : X) (i : ℕ) → i < length (replicate n x) → slice_get (replicate n x) i ≡ Some x
get_replicate zero x i lt = absurd (omega arith)
get_replicate (suc n) x zero lt = refl
get_replicate (suc n) x (suc i) lt = get_replicate n x i (omega arith)

none_linked : (n : ℕ) → IsLinked [] (replicate n empty) (λ l. [])
none_linked n = record {
  places = λ l k s at. absurd (cc);
  all = λ l lt. get_replicate n empty l lt;
  beyond = λ l le. refl;
  held = λ s l x at list. absurd (cc);
}

pub new_linked : (n : ℕ) → IsLinked [] (replicate n empty) (slots_on [] (replicate n empty))
new_linked n = own [] (replicate n empty) (λ l. []) (none_linked n)

pub new_lists : (n l : ℕ) → slots_on [] (replicate n empty) l ≡ []
new_lists n l = lists_are [] (replicate n empty) (λ l. []) (none_linked n) l
