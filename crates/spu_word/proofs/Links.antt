-- What linked slots stand for is one family of lists.
use Rattle.std.proofs.Common.{◌≡◌, ℕ, zero, suc, ◌+◌, ◌<◌, ◌≤◌, ◌⊎◌, inl, inr, List, [], ◌∷◌, length, drop, Option, Some, None, refl, sym, ap, ◌∙◌, subst, arith}
use Rattle.std.specs.Prelude.{slice_get}
use Rattle.std.proofs.Math.Path.{fun_ext}
use Rattle.std.proofs.lemmas.List.{drop_all}
use Rattle.std.proofs.lemmas.Map.Steps.{length-le_from_distinct_below}
use Rattle.spu_word.specs.declared.linked.Slot.{Slot}
use Rattle.spu_word.specs.declared.linked.Ends.{Ends}
use Rattle.spu_word.specs.Lists.{before, IsLinked, next_in, first_in, along, slots_on}
use Rattle.spu_word.proofs.Places.{get_within, get_some, get_past, get_none, drop_get, distinct_places, below_places, less_or}

pub some_slot : (x y : Slot) → Some x ≡ Some y → x ≡ y
some_slot x y e = cc

pub some_number : (x y : ℕ) → Some x ≡ Some y → x ≡ y
some_number x y e = cc

along_none : (slots : List Slot) (n : ℕ) → along slots n None ≡ []
along_none slots zero = refl
along_none slots (suc n) = refl

module _ (slots : List Slot) (ends : List Ends) (lists : ℕ → List ℕ) (linked : IsLinked slots ends lists) where
  -- a slot stands on one list
  pub same_list : (l m i j s : ℕ) → slice_get (lists l) i ≡ Some s → slice_get (lists m) j ≡ Some s → l ≡ m
  same_list l m i j s a b =
      let e = some_slot _ _ (sym (linked.places l i s a) ∙ linked.places m j s b) in
      some_number l m (ap (λ x. x.list) e)

  previous_same : (l i j s : ℕ) → slice_get (lists l) i ≡ Some s → slice_get (lists l) j ≡ Some s → before (lists l) i ≡ before (lists l) j
  previous_same l i j s a b = ap (λ x. x.previous) (some_slot _ _ (sym (linked.places l i s a) ∙ linked.places l j s b))

  earlier : (xs : List ℕ) (i s : ℕ) → slice_get xs (suc i) ≡ Some s → (t : ℕ) × (slice_get xs i ≡ Some t)
  earlier xs i s at = let lt = get_within xs (suc i) s at in get_some xs i (omega (arith, lt))

  -- and once
  pub once : (l i j s : ℕ) → slice_get (lists l) i ≡ Some s → slice_get (lists l) j ≡ Some s → i ≡ j
  once l zero zero s a b = refl
  once l zero (suc j) s a b = let e = previous_same l zero (suc j) s a b in let t = earlier (lists l) j s b in let at = t.1 in absurd (cc)
  once l (suc i) zero s a b = let e = previous_same l (suc i) zero s a b in let t = earlier (lists l) i s a in let at = t.1 in absurd (cc)
  once l (suc i) (suc j) s a b =
      let e = previous_same l (suc i) (suc j) s a b in
      let t = earlier (lists l) i s a in
      ap suc (once l i j t.0 t.1 (sym e ∙ t.1))

  pub stands_once : (l m i j s : ℕ) → slice_get (lists l) i ≡ Some s → slice_get (lists m) j ≡ Some s → (l ≡ m) × (i ≡ j)
  stands_once l m i j s a b =
      let same = same_list l m i j s a b in
      (same, once l i j s a (subst (λ v. slice_get (lists v) j ≡ Some s) (sym same) b))

  pub on_within : (l k s : ℕ) → slice_get (lists l) k ≡ Some s → s < length slots
  on_within l k s at = get_within slots s _ (linked.places l k s at)

  short : (l : ℕ) → length (lists l) ≤ length slots
  short l = length-le_from_distinct_below (lists l) (length slots) (distinct_places (lists l) (λ i j s a b. once l i j s a b)) (below_places (lists l) (length slots) (λ k s at. on_within l k s at))

  follow : (l n k : ℕ) → length (lists l) ≤ k + n → along slots n (slice_get (lists l) k) ≡ drop k (lists l)
  follow l zero k le = sym (drop_all k (lists l) (omega (arith, le)))
  follow l (suc n) k le = by_place (slice_get (lists l) k) refl (follow l n (suc k) (omega (arith, le)))
    where
      by_place : (o : Option ℕ) → slice_get (lists l) k ≡ o → along slots n (slice_get (lists l) (suc k)) ≡ drop (suc k) (lists l) → along slots (suc n) o ≡ drop k (lists l)
      by_place None e rest = sym (drop_all k (lists l) (get_none (lists l) k e))
      by_place (Some s) e rest =
          ap (λ (z : List ℕ). s ∷ z) (ap (λ o. along slots n (next_in o)) (linked.places l k s e) ∙ rest) ∙ sym (drop_get (lists l) k s e)

  pub lists_are : (l : ℕ) → slots_on slots ends l ≡ lists l
  unfolding slots_on
  lists_are l = by_count (less_or l (length ends))
    where
      by_count : (l < length ends) ⊎ (length ends ≤ l) → along slots (length slots) (first_in (slice_get ends l)) ≡ lists l
      by_count (inl lt) = ap (λ o. along slots (length slots) (first_in o)) (linked.all l lt) ∙ follow l (length slots) 0 (let le = short l in omega (arith, le))
      by_count (inr le) = ap (λ o. along slots (length slots) (first_in o)) (get_past ends l le) ∙ along_none slots (length slots) ∙ sym (linked.beyond l le)

  -- so the slots are linked as the lists that they themselves show
  pub own : IsLinked slots ends (slots_on slots ends)
  own = subst (IsLinked slots ends) (sym (fun_ext lists_are)) linked
