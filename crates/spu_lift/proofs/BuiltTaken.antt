-- The places that objects take are those of a list: it is built by functions and words, and by sections of data and words.
use Rattle.std.proofs.Common.{◌≡◌, ℕ, zero, suc, ◌+◌, ◌/◌, ◌<◌, ◌⊎◌, ◌↔◌, Bool, true, false, ◌||◌, ◌&&◌, ◌==◌, if◌then◌else◌, List, [], ◌∷◌, length, Some, slice_get, refl, sym, ap, ap₂, subst, ◌∙◌, inl, inr, arith}
use Rattle.std.specs.List.{list_any}
use Rattle.std.proofs.lemmas.Bool.{cases_Bool, eq-eqb, false≢true}
use Rattle.std.proofs.lemmas.Bool.Decides.{eqb_tells}
use Rattle.spu_word.specs.declared.limits.TheConstants.{WORD_SIZE}
use Rattle.spu_word.proofs.Places.{get_some}
use Rattle.spu_elf.specs.declared.objects.Section.{Section}
use Rattle.spu_elf.specs.declared.objects.Reloc.{Reloc}
use Rattle.spu_elf.specs.declared.objects.Object.{Object}
use Rattle.spu_lift.specs.declared.relocations.Spot.{Spot}
use Rattle.spu_lift.specs.declared.functions.FunctionSymbol.{FunctionSymbol}
use Rattle.spu_lift.specs.declared.functions.Place.{Place}
use Rattle.spu_lift.specs.declared.tables.Meaning.{Meaning}
use Rattle.spu_lift.specs.declared.tables.Meaning.TheVariants as meanings
use Rattle.spu_lift.specs.declared.program.Label.TheVariants as labels
use Rattle.spu_lift.specs.declared.program.Operand.{Operand}
use Rattle.spu_lift.specs.declared.program.Operand.TheVariants as operand
use Rattle.spu_lift.specs.declared.program.SymInst.{SymInst}
use Rattle.spu_lift.specs.Tables.{is_code, reloc_on}
use Rattle.spu_lift.specs.Extents.{label_of}
use Rattle.spu_lift.specs.Meanings.{meaning_of}
use Rattle.spu_lift.specs.FunctionTables.{HasPlaces, IsLiftedIn, IsPlaceMeant}
use Rattle.spu_lift.specs.TakenPlaces.{IsLabeledBy, IsLabeledIn, IsLabeledInObject, IsLabeledOf, IsNamedBy, IsNamedIn, IsTakenPlace, LabelsPlace, NamesPlace, same_place, spot_in}
use Rattle.spu_lift.specs.Built.{AreReady, word_spot}
use Rattle.spu_lift.proofs.TakenLemmas.{IsBelow, none_below, none_taken, one_labeled, one_lifted, one_named, one_taken, step_more}
use Rattle.spu_lift.proofs.TakenSteps.{adds_by, code_unlabeled, function_named, labeled_object, labeled_section, named_function, object_labeled, section_labeled}
use Rattle.spu_lift.proofs.ReadyFunctions.{place_for}
use Rattle.spu_lift.proofs.Decisions.{Decided, decided_by, decided_some, IsSomeOf}

-- ---- lists of places

abbrev pub among : List Place → Place → Bool
among ps p = list_any (same_place p) ps

abbrev AddsTo : (Place → Type 0) → List Place → List Place → Type 0
AddsTo such old new = (p : Place) → (among new p ≡ true) ↔ ((among old p ≡ true) ⊎ such p)

-- the places that objects take are those of the list
abbrev pub ArePlacesTaken : List Object → List FunctionSymbol → List Place → Type 0
ArePlacesTaken os fs ps = (p : Place) → (among ps p ≡ true) ↔ IsTakenPlace os fs p

abbrev pub HasTaken : List Object → List FunctionSymbol → Type 0
HasTaken os fs = (ps : List Place) × ArePlacesTaken os fs ps

-- such places can be put to any others
abbrev Addable : (Place → Type 0) → Type 0
Addable such = (old : List Place) → (new : List Place) × AddsTo such old new

addable_by : (such other : Place → Type 0) → ((p : Place) → such p → other p) → ((p : Place) → other p → such p) → Addable such → Addable other
addable_by such other there back adds old = let new = adds old in (new.0, adds_by such other (among old) (among new.0) there back new.1)

addable_none : (such : Place → Type 0) → ((p : Place) → such p → ⊥) → Addable such
addable_none such none old = (old, none_taken such (among old) none)

equal_back : (m n : ℕ) → (m == n) ≡ (n == m)
equal_back m n = elim (eqb_tells m n) [
  | inl (equal, same) ↦ equal ∙ sym (eq-eqb n m (sym same))
  | inr (unequal, apart) ↦ elim (eqb_tells n m) [
    | inl (equal, same) ↦ absurd (apart (sym same))
    | inr (other, away) ↦ unequal ∙ sym other
  ]
]

place_back : (p q : Place) → same_place p q ≡ same_place q p
place_back p q = ap₂ (λ a b. a && b) (equal_back p.function q.function) (equal_back p.word q.word)

or_else : (a b : Bool) → (a || b) ≡ (if a then true else b)
or_else true b = refl
or_else false b = refl

addable_one : (such : Place → Type 0) → ((p q : Place) → such p → such q → p ≡ q) → Decided ((p : Place) × such p) → Addable such
addable_one such only (inl (one, is)) old =
    (one ∷ old, one_taken such (among old) (among (one ∷ old)) one is (λ p also. only one p is also) (λ p. or_else (same_place p one) (among old p) ∙ ap (λ b. if b then true else among old p) (place_back p one)))
addable_one such only (inr none) old = addable_none such (λ p is. none (p, is)) old

addable_below : (such : ℕ → Place → Type 0) (n : ℕ) → ((i : ℕ) → i < n → Addable (such i)) → Addable (IsBelow such n)
addable_below such zero each old = (old, none_below such (among old))
addable_below such (suc n) each old =
    let before = addable_below such n (λ i less. each i (omega (arith, less))) old in
    let more = each n (omega arith) before.0 in
    let next : n + 1 ≡ suc n = omega arith in
    (more.0, subst (λ m. AddsTo (IsBelow such m) old more.0) next (step_more such (among old) (among before.0) (among more.0) n before.1 more.1))

-- ---- in code

abbrev IsAddressOf : Operand → Place → Type 0
IsAddressOf o p = o ≡ operand.Address (label_of p.function p.word)

no_label : (f g j : ℕ) → operand.Address (labels.Place f zero) ≡ operand.Address (label_of g j) → ⊥
no_label f g zero e = cc
no_label f g (suc j) e = let same : zero ≡ suc j = cc in omega (arith, same)

no_link : (f i g j : ℕ) → operand.Address (labels.Link f i) ≡ operand.Address (label_of g j) → ⊥
no_link f i g zero e = cc
no_link f i g (suc j) e = cc

decided_address : (o : Operand) → Decided ((p : Place) × IsAddressOf o p)
decided_address operand.Plain = inr (λ h. let e = h.1 in cc)
decided_address (operand.Number v) = inr (λ h. let e = h.1 in cc)
decided_address (operand.Call f) = inr (λ h. let e = h.1 in cc)
decided_address (operand.Jump f) = inr (λ h. let e = h.1 in cc)
decided_address (operand.Branch w) = inr (λ h. let e = h.1 in cc)
decided_address (operand.Address (labels.Fun f)) = inl (record { function = f; word = zero }, refl)
decided_address (operand.Address (labels.Place f zero)) = inr (λ h. no_label f h.0.function h.0.word h.1)
decided_address (operand.Address (labels.Place f (suc i))) = inl (record { function = f; word = suc i }, refl)
decided_address (operand.Address (labels.Link f i)) = inr (λ h. no_link f i h.0.function h.0.word h.1)

decided_named : (os : List Object) (fs : List FunctionSymbol) (f : ℕ) (q : Spot) → HasPlaces fs → (s : SymInst) × IsLiftedIn os fs f q s → Decided ((p : Place) × NamesPlace os fs f q p)
decided_named os fs f q has (s, lifted) =
    decided_by ((p : Place) × IsAddressOf s.operand p) ((p : Place) × NamesPlace os fs f q p)
    (λ h. (h.0, record { x = s; lifted = lifted; names = h.1 }))
    (λ h. (h.0, ap (λ (x : SymInst). x.operand) (one_lifted os fs f q s h.1.x has lifted h.1.lifted) ∙ h.1.names))
    (decided_address s.operand)

module _ (os : List Object) (fs : List FunctionSymbol) (has : HasPlaces fs) where
  in_function : (i : ℕ) (f : FunctionSymbol) → AreReady os fs → slice_get fs i ≡ Some f → Addable (IsNamedIn os fs (i + 1) f)
  in_function i f ready at = addable_below (λ w. NamesPlace os fs (i + 1) (spot_in f w)) (f.size / WORD_SIZE) (λ w less.
      addable_one (NamesPlace os fs (i + 1) (spot_in f w)) (λ p q one two. one_named os fs (i + 1) (spot_in f w) p q has one two)
      (decided_named os fs (i + 1) (spot_in f w) has ((ready i f at).lifts w less)))

  in_code : AreReady os fs → Addable (IsBelow (IsNamedBy os fs) (length fs))
  in_code ready = addable_below (IsNamedBy os fs) (length fs) (λ i less.
      let f = get_some fs i less in
      addable_by (IsNamedIn os fs (i + 1) f.0) (IsNamedBy os fs i) (function_named os fs i f.0 f.1) (named_function os fs i f.0 f.1) (in_function i f.0 ready f.1))

  -- ---- in data

  decided_meant : (m : Meaning) → Decided ((p : Place) × IsPlaceMeant fs m p)
  decided_meant (meanings.Number v) = inr (λ h. h.1)
  decided_meant meanings.Unknown = inr (λ h. h.1)
  decided_meant (meanings.Code n k offset) = elim (place_for fs n k offset) [
    | inl there ↦ inl there
    | inr none ↦ inr (λ h. none h.0 h.1)
  ]

  abbrev MeansPlace : ℕ → Reloc → Type 0
  MeansPlace n r = (p : Place) × IsPlaceMeant fs (meaning_of os n r) p

  pub decided_label : (q : Spot) → Decided ((p : Place) × LabelsPlace os fs q p)
  decided_label q =
      decided_by (IsSomeOf (reloc_on os q.object q.section q.offset) (MeansPlace q.object)) ((p : Place) × LabelsPlace os fs q p)
      (λ h. (h.2.0, record { r = h.0; reloc = h.1; place = h.2.1 }))
      (λ h. (h.1.r, h.1.reloc, (h.0, h.1.place)))
      (decided_some (reloc_on os q.object q.section q.offset) (MeansPlace q.object) (λ r at. decided_meant (meaning_of os q.object r)))

  in_section : (n k : ℕ) (t : Section) → Addable (IsLabeledIn os fs n k t)
  in_section n k t = addable_below (λ w. LabelsPlace os fs (word_spot n k w)) (length t.bytes / WORD_SIZE) (λ w less.
      addable_one (LabelsPlace os fs (word_spot n k w)) (λ p q one two. one_labeled os fs (word_spot n k w) p q has one two) (decided_label (word_spot n k w)))

  by_section : (n k : ℕ) (ts : List Section) (t : Section) → slice_get ts k ≡ Some t → Addable (IsLabeledBy os fs n ts k)
  by_section n k ts t at = elim (cases_Bool (is_code t.kind)) [
    | inl code ↦ addable_none (IsLabeledBy os fs n ts k) (code_unlabeled os fs n ts k t at code)
    | inr data_is ↦ addable_by (IsLabeledIn os fs n k t) (IsLabeledBy os fs n ts k) (section_labeled os fs n ts k t at data_is) (labeled_section os fs n ts k t at) (in_section n k t)
  ]

  in_data : Addable (IsBelow (IsLabeledInObject os fs) (length os))
  in_data = addable_below (IsLabeledInObject os fs) (length os) (λ n less.
      let o = get_some os n less in
      addable_by (IsLabeledOf os fs n o.0.sections) (IsLabeledInObject os fs n) (object_labeled os fs n o.0 o.1) (labeled_object os fs n o.0 o.1)
      (addable_below (IsLabeledBy os fs n o.0.sections) (length o.0.sections) (λ k within. let t = get_some o.0.sections k within in by_section n k o.0.sections t.0 t.1)))

  -- ---- all of them

  pub taken_there : AreReady os fs → HasTaken os fs
  taken_there ready =
      let code = in_code ready ([]) in
      let all = in_data code.0 in
      (all.0, all_taken code.0 all.0 code.1 all.1)
    where
      all_taken : (mid last : List Place) → AddsTo (IsBelow (IsNamedBy os fs) (length fs)) ([]) mid → AddsTo (IsBelow (IsLabeledInObject os fs) (length os)) mid last → ArePlacesTaken os fs last
      all_taken mid last named labeled p = (λ is. there ((labeled p).0 is), λ h. back h)
        where
          first : (among ([]) p ≡ true) ⊎ IsBelow (IsNamedBy os fs) (length fs) p → IsTakenPlace os fs p
          first (inl is) = absurd (false≢true is)
          first (inr is) = inl is

          there : (among mid p ≡ true) ⊎ IsBelow (IsLabeledInObject os fs) (length os) p → IsTakenPlace os fs p
          there (inl is) = first ((named p).0 is)
          there (inr is) = inr is

          back : IsTakenPlace os fs p → among last p ≡ true
          back (inl is) = (labeled p).1 (inl ((named p).1 (inr is)))
          back (inr is) = (labeled p).1 (inr is)
