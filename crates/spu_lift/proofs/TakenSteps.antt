-- The passes over functions and data that take places.
use Rattle.std.proofs.Common.{◌≡◌, ℕ, ◌+◌, ◌<◌, ◌≤◌, ◌⊎◌, ◌↔◌, Bool, true, false, List, length, Option, Some, None, slice_get, refl, sym, ap, subst, ◌∙◌, inl, inr, arith}
use Rattle.std.proofs.lemmas.Option.{same_Some}
use Rattle.spu_elf.specs.declared.objects.SecKind.{SecKind}
use Rattle.spu_elf.specs.declared.objects.SecKind.TheVariants as kinds
use Rattle.spu_elf.specs.declared.objects.Section.{Section}
use Rattle.spu_elf.specs.declared.objects.Object.{Object}
use Rattle.spu_lift.specs.declared.functions.FunctionSymbol.{FunctionSymbol}
use Rattle.spu_lift.specs.declared.functions.Place.{Place}
use Rattle.spu_lift.specs.declared.taken.Taken.{Taken}
use Rattle.spu_lift.specs.Tables.{is_code}
use Rattle.spu_lift.specs.TakenPlaces.{IsLabeledBy, IsLabeledIn, IsLabeledInObject, IsLabeledOf, IsNamedBy, IsNamedIn, IsTakenPlace, TakesPlaces, takes}
use Rattle.spu_lift.proofs.TakenLemmas.{IsBelow}

-- a step that takes the same places by another name
pub adds_by : (such other : Place → Type 0) (old new : Place → Bool) → ((p : Place) → such p → other p) → ((p : Place) → other p → such p) → ((p : Place) → (new p ≡ true) ↔ ((old p ≡ true) ⊎ such p))
    → (p : Place) → (new p ≡ true) ↔ ((old p ≡ true) ⊎ other p)
adds_by such other old new there back step p = (λ is. forth ((step p).0 is), λ h. (step p).1 (again h))
  where
    forth : (old p ≡ true) ⊎ such p → (old p ≡ true) ⊎ other p
    forth (inl is) = inl is
    forth (inr is) = inr (there p is)

    again : (old p ≡ true) ⊎ other p → (old p ≡ true) ⊎ such p
    again (inl is) = inl is
    again (inr is) = inr (back p is)

pub function_named : (os : List Object) (fs : List FunctionSymbol) (i : ℕ) (f : FunctionSymbol) → slice_get fs i ≡ Some f → (p : Place) → IsNamedIn os fs (i + 1) f p → IsNamedBy os fs i p
function_named os fs i f there p named = record { f = f; there = there; named = named }

pub named_function : (os : List Object) (fs : List FunctionSymbol) (i : ℕ) (f : FunctionSymbol) → slice_get fs i ≡ Some f → (p : Place) → IsNamedBy os fs i p → IsNamedIn os fs (i + 1) f p
named_function os fs i f there p is = subst (λ (g : FunctionSymbol). IsNamedIn os fs (i + 1) g p) (same_Some is.f f (sym is.there ∙ there)) is.named

pub section_labeled : (os : List Object) (fs : List FunctionSymbol) (n : ℕ) (ts : List Section) (k : ℕ) (t : Section) → slice_get ts k ≡ Some t → is_code t.kind ≡ false → (p : Place) → IsLabeledIn os fs n k t p → IsLabeledBy os fs n ts k p
section_labeled os fs n ts k t there holds p labeled = record { t = t; there = there; holds_data = holds; labeled = labeled }

pub labeled_section : (os : List Object) (fs : List FunctionSymbol) (n : ℕ) (ts : List Section) (k : ℕ) (t : Section) → slice_get ts k ≡ Some t → (p : Place) → IsLabeledBy os fs n ts k p → IsLabeledIn os fs n k t p
labeled_section os fs n ts k t there p is = subst (λ (u : Section). IsLabeledIn os fs n k u p) (same_Some is.t t (sym is.there ∙ there)) is.labeled

pub code_unlabeled : (os : List Object) (fs : List FunctionSymbol) (n : ℕ) (ts : List Section) (k : ℕ) (t : Section) → slice_get ts k ≡ Some t → is_code t.kind ≡ true → (p : Place) → IsLabeledBy os fs n ts k p → ⊥
code_unlabeled os fs n ts k t there code p is =
    let same : is.t ≡ t = same_Some is.t t (sym is.there ∙ there) in
    let no : is_code t.kind ≡ false = ap (λ (u : Section). is_code u.kind) (sym same) ∙ is.holds_data in
    absurd (cc)

pub object_labeled : (os : List Object) (fs : List FunctionSymbol) (n : ℕ) (o : Object) → slice_get os n ≡ Some o → (p : Place) → IsLabeledOf os fs n o.sections p → IsLabeledInObject os fs n p
object_labeled os fs n o there p labeled = record { o = o; there = there; labeled = labeled }

pub labeled_object : (os : List Object) (fs : List FunctionSymbol) (n : ℕ) (o : Object) → slice_get os n ≡ Some o → (p : Place) → IsLabeledInObject os fs n p → IsLabeledOf os fs n o.sections p
labeled_object os fs n o there p is = subst (λ (x : Object). IsLabeledOf os fs n x.sections p) (same_Some is.o o (sym is.there ∙ there)) is.labeled

-- both passes from nothing on
pub all_places : (os : List Object) (fs : List FunctionSymbol) (n m : ℕ) (start mid last : Taken) → n ≡ length fs → m ≡ length os → ((p : Place) → takes start p ≡ false)
    → ((p : Place) → (takes mid p ≡ true) ↔ ((takes start p ≡ true) ⊎ IsBelow (IsNamedBy os fs) n p)) → ((p : Place) → (takes last p ≡ true) ↔ ((takes mid p ≡ true) ⊎ IsBelow (IsLabeledInObject os fs) m p)) → TakesPlaces os fs last
all_places os fs n m start mid last functions objects none named labeled p = (λ is. there ((labeled p).0 is), λ h. back h)
  where
    first : (takes start p ≡ true) ⊎ IsBelow (IsNamedBy os fs) n p → IsTakenPlace os fs p
    first (inl is) = let not = none p in absurd (cc)
    first (inr is) = inl (subst (λ c. IsBelow (IsNamedBy os fs) c p) functions is)

    there : (takes mid p ≡ true) ⊎ IsBelow (IsLabeledInObject os fs) m p → IsTakenPlace os fs p
    there (inl is) = first ((named p).0 is)
    there (inr is) = inr (subst (λ c. IsBelow (IsLabeledInObject os fs) c p) objects is)

    back : IsTakenPlace os fs p → takes last p ≡ true
    back (inl is) = (labeled p).1 (inl ((named p).1 (inr (subst (λ c. IsBelow (IsNamedBy os fs) c p) (sym functions) is))))
    back (inr is) = (labeled p).1 (inr (subst (λ c. IsBelow (IsLabeledInObject os fs) c p) (sym objects) is))
