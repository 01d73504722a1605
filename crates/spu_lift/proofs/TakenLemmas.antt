-- Places that are taken, one after another; and that a word names at most one.
use Rattle.std.proofs.Common.{◌≡◌, ℕ, zero, suc, ◌+◌, ◌-◌, ◌*◌, ◌<◌, ◌≤◌, ◌⊎◌, ◌↔◌, Bool, true, false, ◌&&◌, ◌==◌, cond, if◌then◌else◌, List, Option, Some, None, length, get_or, slice_get, refl, sym, ap, subst, ◌∙◌, inl, inr, arith, pos, ℤ}
use Rattle.std.proofs.lemmas.Bool.{cases_Bool, cases_lt}
use Rattle.std.proofs.lemmas.Bool.Decides.{nat_tests}
use Rattle.std.proofs.lemmas.Option.{get_or_from_slice_get, none-some, same_Some, slice_get_within}
use Rattle.spu_word.specs.declared.limits.TheConstants.{WORD_SIZE}
use Rattle.spu_isa.specs.declared.instruction.Inst.{Inst}
use Rattle.spu_isa.specs.declared.operation.Kind.{Kind}
use Rattle.spu_isa.specs.Table.{row_of}
use Rattle.spu_elf.specs.declared.objects.Object.{Object}
use Rattle.spu_lift.specs.declared.relocations.Spot.{Spot}
use Rattle.spu_lift.specs.declared.functions.FunctionSymbol.{FunctionSymbol}
use Rattle.spu_lift.specs.declared.functions.Place.{Place}
use Rattle.spu_lift.specs.declared.program.Label.{Label}
use Rattle.spu_lift.specs.declared.program.Operand.{Operand}
use Rattle.spu_lift.specs.declared.program.Operand.TheVariants as operand
use Rattle.spu_lift.specs.declared.program.SymInst.{SymInst}
use Rattle.spu_lift.specs.declared.tables.Meaning.{Meaning}
use Rattle.spu_lift.specs.declared.tables.Meaning.TheVariants.{Number, Code, Unknown}
use Rattle.spu_lift.specs.Extents.{label_of}
use Rattle.spu_lift.specs.Meanings.{field_of, is_hint, meaning_of}
use Rattle.spu_lift.specs.Lifted.{operand_to, with_operand}
use Rattle.spu_lift.specs.FunctionTables.{HasPlaces, IsLiftedBy, IsLiftedIn, IsOperandIn, IsPlaceFor, IsPlaceIn, IsPlaceMeant, IsPlaceOperand, is_in}
use Rattle.spu_lift.specs.TakenPlaces.{LabelsPlace, NamesPlace, same_place}
use Rattle.spu_lift.proofs.LiftedWords.{one_word}

-- ---- one place more

-- what is taken after n steps, of which each takes such places
abbrev pub IsBelow : (ℕ → Place → Type 0) → ℕ → Place → Type 0
IsBelow such n p = (i : ℕ) × (i < n) × such i p

pub none_below : (such : ℕ → Place → Type 0) (start : Place → Bool) → (p : Place) → (start p ≡ true) ↔ ((start p ≡ true) ⊎ IsBelow such 0 p)
none_below such start p = (λ is. inl is, λ h. by h)
  where
    by : (start p ≡ true) ⊎ IsBelow such 0 p → start p ≡ true
    by (inl is) = is
    by (inr less) = let bad = less.1 in absurd (omega arith)

-- one step more
pub step_more : (such : ℕ → Place → Type 0) (start old new : Place → Bool) (n : ℕ) → ((p : Place) → (old p ≡ true) ↔ ((start p ≡ true) ⊎ IsBelow such n p)) → ((p : Place) → (new p ≡ true) ↔ ((old p ≡ true) ⊎ such n p))
    → (p : Place) → (new p ≡ true) ↔ ((start p ≡ true) ⊎ IsBelow such (n + 1) p)
step_more such start old new n before step p = (λ is. there (step p).0 is, λ h. back h)
  where
    further : (start p ≡ true) ⊎ IsBelow such n p → (start p ≡ true) ⊎ IsBelow such (n + 1) p
    further (inl is) = inl is
    further (inr less) = let below = less.1 in inr (less.0, omega arith, less.2)

    last : (old p ≡ true) ⊎ such n p → (start p ≡ true) ⊎ IsBelow such (n + 1) p
    last (inl is) = further ((before p).0 is)
    last (inr is) = inr (n, omega arith, is)

    there : (new p ≡ true → (old p ≡ true) ⊎ such n p) → new p ≡ true → (start p ≡ true) ⊎ IsBelow such (n + 1) p
    there h is = last (h is)

    back : (start p ≡ true) ⊎ IsBelow such (n + 1) p → new p ≡ true
    back (inl is) = (step p).1 (inl ((before p).1 (inl is)))
    back (inr less) = elim (cases_lt less.0 n) [
      | inl below ↦ (step p).1 (inl ((before p).1 (inr (less.0, below, less.2))))
      | inr here ↦
          let below = less.1 in
          let same : less.0 ≡ n = omega arith in
          (step p).1 (inr (subst (λ m. such m p) same less.2))
    ]

same_place_is : (p q : Place) → same_place p q ≡ true → p ≡ q
same_place_is p q is =
    let function : p.function ≡ q.function = grind (arith, nat_tests) in
    let word : p.word ≡ q.word = grind (arith, nat_tests) in
    let at : ℕ → ℕ → Place = λ f w. record { function = f; word = w } in
    ap (λ f. at f p.word) function ∙ ap (at q.function) word

place_same : (p q : Place) → p ≡ q → same_place p q ≡ true
place_same p q e =
    let function : p.function ≡ q.function = ap (λ (x : Place). x.function) e in
    let word : p.word ≡ q.word = ap (λ (x : Place). x.word) e in
    grind (arith, nat_tests)

-- a step that takes one place
pub one_taken : (such : Place → Type 0) (old new : Place → Bool) (one : Place) → such one → ((p : Place) → such p → one ≡ p) → ((p : Place) → new p ≡ (if same_place one p then true else old p)) → (p : Place) → (new p ≡ true) ↔ ((old p ≡ true) ⊎ such p)
one_taken such old new one is only put p = by (cases_Bool (same_place one p))
  where
    by : (same_place one p ≡ true) ⊎ (same_place one p ≡ false) → (new p ≡ true) ↔ ((old p ≡ true) ⊎ such p)
    by (inl same) =
        let here : new p ≡ true = put p ∙ ap (λ b. cond b true (old p)) same in
        (λ h. inr (subst such (same_place_is one p same) is), λ h. here)
    by (inr other) =
        let here : new p ≡ old p = put p ∙ ap (λ b. cond b true (old p)) other in
        (λ h. inl (sym here ∙ h), λ h. back here h)
      where
        back : new p ≡ old p → (old p ≡ true) ⊎ such p → new p ≡ true
        back here (inl old_is) = here ∙ old_is
        back here (inr such_is) = let same : same_place one p ≡ true = place_same one p (only p such_is) in absurd (cc)

-- and one that takes none
pub none_taken : (such : Place → Type 0) (old : Place → Bool) → ((p : Place) → such p → ⊥) → (p : Place) → (old p ≡ true) ↔ ((old p ≡ true) ⊎ such p)
none_taken such old none p = (λ is. inl is, λ h. by h)
  where
    by : (old p ≡ true) ⊎ such p → old p ≡ true
    by (inl is) = is
    by (inr bad) = absurd (none p bad)

-- ---- one place of a word

in_same : (f g : FunctionSymbol) (n k : ℕ) → is_in f n k ≡ true → is_in g n k ≡ true → is_in g f.object f.section ≡ true
in_same f g n k one two = grind (arith, nat_tests)

-- two functions that hold a place are one
not_both : (fs : List FunctionSymbol) (q : Spot) (p r : Place) → HasPlaces fs → (one : IsPlaceIn fs q p) → (two : IsPlaceIn fs q r) → p.function < r.function → ⊥
not_both fs q p r places one two less =
    let from = one.from in
    let within : r.function - 1 < length fs = slice_get_within fs (r.function - 1) two.f two.there in
    let first : get_or fs (p.function - 1) one.f ≡ one.f = get_or_from_slice_get fs (p.function - 1) one.f one.f one.there in
    let second : get_or fs (r.function - 1) one.f ≡ two.f = get_or_from_slice_get fs (r.function - 1) two.f one.f two.there in
    let inside : is_in two.f one.f.object one.f.section ≡ true = in_same one.f two.f q.object q.section one.section two.section in
    let placed : is_in (get_or fs (r.function - 1) one.f) (get_or fs (p.function - 1) one.f).object (get_or fs (p.function - 1) one.f).section ≡ true = rw (first, second) inside in
    let ends : (get_or fs (p.function - 1) one.f).offset + (get_or fs (p.function - 1) one.f).size ≤ (get_or fs (r.function - 1) one.f).offset = places.apart (p.function - 1) (r.function - 1) one.f (omega arith) within placed in
    let apart : one.f.offset + one.f.size ≤ two.f.offset = rw (first, second) at ends in
    let one_at = one.at in
    let two_at = two.at in
    let one_inside = one.inside in
    absurd (omega arith)

pub one_place : (fs : List FunctionSymbol) (q : Spot) (p r : Place) → HasPlaces fs → IsPlaceIn fs q p → IsPlaceIn fs q r → p ≡ r
one_place fs q p r places one two = elim (cases_lt p.function r.function) [
  | inl less ↦ absurd (not_both fs q p r places one two less)
  | inr more ↦ elim (cases_lt r.function p.function) [
    | inl less ↦ absurd (not_both fs q r p places two one less)
    | inr even ↦
        let function : p.function ≡ r.function = omega arith in
        let same : one.f ≡ two.f = same_Some one.f two.f (sym one.there ∙ ap (λ n. slice_get fs (n - 1)) function ∙ two.there) in
        let offset : one.f.offset ≡ two.f.offset = ap (λ (f : FunctionSymbol). f.offset) same in
        let one_at = one.at in
        let two_at = two.at in
        let word : p.word ≡ r.word = omega arith in
        let at : ℕ → ℕ → Place = λ f w. record { function = f; word = w } in
        ap (λ f. at f p.word) function ∙ ap (at r.function) word
  ]
]

pub one_place_for : (fs : List FunctionSymbol) (n k : ℕ) (offset : ℤ) (p r : Place) → HasPlaces fs → IsPlaceFor fs n k offset p → IsPlaceFor fs n k offset r → p ≡ r
one_place_for fs n k offset p r places one two =
    let signed : pos one.at ≡ pos two.at = sym one.is ∙ two.is in
    let same : one.at ≡ two.at = cc in
    let moved : IsPlaceIn fs (record { object = n; section = k; offset = two.at }) p = subst (λ (m : ℕ). IsPlaceIn fs (record { object = n; section = k; offset = m }) p) same one.place in
    one_place fs (record { object = n; section = k; offset = two.at }) p r places moved two.place

pub one_place_meant : (fs : List FunctionSymbol) (m : Meaning) (p r : Place) → HasPlaces fs → IsPlaceMeant fs m p → IsPlaceMeant fs m r → p ≡ r
one_place_meant fs (Number v) p r places one two = absurd one
one_place_meant fs (Code n k offset) p r places one two = one_place_for fs n k offset p r places one two
one_place_meant fs Unknown p r places one two = absurd one

one_operand : (fs : List FunctionSymbol) (f : ℕ) (what : Kind) (field : Option Meaning) (o u : Operand) → HasPlaces fs → IsOperandIn fs f what field o → IsOperandIn fs f what field u → o ≡ u
one_operand fs f what None o u places one two = one ∙ sym two
one_operand fs f what (Some (Number v)) o u places one two = one ∙ sym two
one_operand fs f what (Some (Code n k offset)) o u places one two =
    let same : one.p ≡ two.p = one_place_for fs n k offset one.p two.p places one.place two.place in
    one.is ∙ ap (λ (p : Place). operand_to what f p.function p.word) same ∙ sym two.is
one_operand fs f what (Some Unknown) o u places one two = absurd one

-- a word is lifted to one instruction
pub one_lifted : (os : List Object) (fs : List FunctionSymbol) (f : ℕ) (q : Spot) (s u : SymInst) → HasPlaces fs → IsLiftedIn os fs f q s → IsLiftedIn os fs f q u → s ≡ u
one_lifted os fs f q s u places one two =
    let same : one.x ≡ two.x = one_word os q one.x two.x one.word two.word in
    by two.x (is_hint two.x.op) (subst (λ (x : Inst). IsLiftedBy (is_hint x.op) os fs f q x s) same one.lifted) two.lifted
  where
    by : (x : Inst) (b : Bool) → IsLiftedBy b os fs f q x s → IsLiftedBy b os fs f q x u → s ≡ u
    by x true a b = a ∙ sym b
    by x false a b =
        let same : a.0 ≡ b.0 = one_operand fs f (row_of x.op).kind (field_of os q.object q.section q.offset x) a.0 b.0 places a.1 b.1 in
        a.2 ∙ ap (with_operand x) same ∙ sym b.2

same_label : (p r : Place) → label_of p.function p.word ≡ label_of r.function r.word → p ≡ r
same_label p r e = by p.function p.word r.function r.word e
  where
    by : (f w g v : ℕ) → label_of f w ≡ label_of g v → ◌≡◌ {A = Place} (record { function = f; word = w }) (record { function = g; word = v })
    by f zero g zero e = let same : f ≡ g = cc in ap (λ n. record { function = n; word = zero }) same
    by f zero g (suc v) e = absurd (cc)
    by f (suc w) g zero e = absurd (cc)
    by f (suc w) g (suc v) e =
        let same : f ≡ g = cc in
        let word : suc w ≡ suc v = cc in
        let at : ℕ → ℕ → Place = λ n m. record { function = n; word = m } in
        ap (λ n. at n (suc w)) same ∙ ap (at g) word

pub one_named : (os : List Object) (fs : List FunctionSymbol) (f : ℕ) (q : Spot) (p r : Place) → HasPlaces fs → NamesPlace os fs f q p → NamesPlace os fs f q r → p ≡ r
one_named os fs f q p r places one two =
    let same : one.x ≡ two.x = one_lifted os fs f q one.x two.x places one.lifted two.lifted in
    let names : operand.Address (label_of p.function p.word) ≡ operand.Address (label_of r.function r.word) = sym one.names ∙ ap (λ (x : SymInst). x.operand) same ∙ two.names in
    let labels : label_of p.function p.word ≡ label_of r.function r.word = cc in
    same_label p r labels

pub one_labeled : (os : List Object) (fs : List FunctionSymbol) (q : Spot) (p r : Place) → HasPlaces fs → LabelsPlace os fs q p → LabelsPlace os fs q r → p ≡ r
one_labeled os fs q p r places one two =
    let same : one.r ≡ two.r = same_Some one.r two.r (sym one.reloc ∙ two.reloc) in
    let means : meaning_of os q.object one.r ≡ meaning_of os q.object two.r = ap (meaning_of os q.object) same in
    one_place_meant fs (meaning_of os q.object two.r) p r places (subst (λ (m : Meaning). IsPlaceMeant fs m p) means one.place) two.place
