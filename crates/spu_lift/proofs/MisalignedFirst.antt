-- A section, function or named area out of alignment is shown nowhere, or first at one place; and a missing entry.
use Rattle.std.proofs.Common.{◌≡◌, ◌≢◌, ℕ, ◌+◌, ◌%◌, ◌<◌, ◌⊎◌, true, List, [], ◌∷◌, length, refl, sym, ap, subst, ◌∙◌, inl, inr, arith, lit≤}
use Rattle.std.proofs.lemmas.Option.{slice_get_within}
use Rattle.spu_word.specs.declared.limits.TheConstants.{QUAD_SIZE, WORD_SIZE}
use Rattle.spu_word.proofs.Places.{nat_equal}
use Rattle.spu_elf.specs.declared.objects.Section.{Section}
use Rattle.spu_elf.specs.declared.objects.Symbol.{Symbol}
use Rattle.spu_elf.specs.declared.objects.Object.{Object}
use Rattle.spu_lift.specs.declared.fault.LiftKind.TheVariants.{Misaligned}
use Rattle.spu_lift.specs.declared.fault.LiftFault.{LiftFault}
use Rattle.spu_lift.specs.declared.fault.LiftFault.TheVariants as faults
use Rattle.spu_lift.specs.Tables.{DataPlace, section_at, sections_of, symbol_at, symbols_of}
use Rattle.spu_lift.specs.Extents.{Extent}
use Rattle.spu_lift.specs.Lifted.{IsEntry, ear_place}
use Rattle.spu_lift.specs.LiftFaults.{HasNoEntry, IsMisalignedSection, OfEar, OfFunction, OfSection, Shows}
use Rattle.spu_lift.proofs.FirstPlaces.{Shown}
use Rattle.spu_lift.proofs.ExtentFacts.{object_of_symbol, section_of_object}
use Rattle.spu_lift.proofs.Decisions.{Decided, IsSomeOf, decided_both, decided_by, decided_either, decided_less, decided_not, decided_some, decided_true, decided_unequal}
use Rattle.spu_lift.proofs.FunctionSearch.{IsFunctionAnywhere, IsFunctionBy, decided_anywhere, decided_function}
use Rattle.spu_lift.proofs.ConditionDecisions.{decided_misaligned, decided_name}
use Rattle.spu_lift.proofs.ShownFirst.{three}
use Rattle.spu_lift.proofs.PlaceSearch.{IsBoundedPlace, IsFirstOrNowhere, IsToldAt, first_or_nowhere}

-- ---- sections

abbrev IsSectionAt : List Object → ℕ → ℕ → ℕ → Type 0
IsSectionAt os c n k = (c ≡ 0) × IsSomeOf (section_at os n k) IsMisalignedSection

section_told : (os : List Object) (place : List ℕ) → Decided (IsToldAt (OfSection os) place)
section_told os [] = inr (λ h. let e = h.1.at in cc)
section_told os (n ∷ []) = inr (λ h. let e = h.1.at in cc)
section_told os (n ∷ k ∷ []) = inr (λ h. let e = h.1.at in cc)
section_told os (n ∷ c ∷ k ∷ m ∷ ms) = inr (λ h. let e = h.1.at in cc)
section_told os (n ∷ c ∷ k ∷ []) =
    decided_by (IsSectionAt os c n k) (IsToldAt (OfSection os) (n ∷ c ∷ k ∷ []))
    (λ h. (faults.Site Misaligned n h.1.0.name 0, record { n = n; k = k; section = h.1.0; there = h.1.1; bad = h.1.2; at = ap (λ (m : ℕ). n ∷ m ∷ k ∷ []) h.0; told = refl }))
    (λ h.
    let same = three n c k h.1.n 0 h.1.k h.1.at in
    subst (λ (m : ℕ). IsSectionAt os c m k) same.0 (subst (λ (m : ℕ). IsSectionAt os c h.1.n m) same.2 (sym same.1, (h.1.section, h.1.there, h.1.bad))))
    (decided_both (c ≡ 0) (IsSomeOf (section_at os n k) IsMisalignedSection) (nat_equal c 0) (decided_some (section_at os n k) IsMisalignedSection (λ t at. decided_misaligned t)))

-- ---- functions

abbrev IsUneven : Extent → ℕ → Symbol → Section → Type 0
IsUneven x j s t = (x.offset % WORD_SIZE ≢ 0) ⊎ (x.size % WORD_SIZE ≢ 0)

abbrev IsFunctionAt : List Object → ℕ → ℕ → ℕ → Type 0
IsFunctionAt os c n j = (c ≡ 1) × IsFunctionBy os IsUneven n j

function_told : (os : List Object) (place : List ℕ) → Decided (IsToldAt (OfFunction os) place)
function_told os [] = inr (λ h. let e = h.1.at in cc)
function_told os (n ∷ []) = inr (λ h. let e = h.1.at in cc)
function_told os (n ∷ k ∷ []) = inr (λ h. let e = h.1.at in cc)
function_told os (n ∷ c ∷ k ∷ m ∷ ms) = inr (λ h. let e = h.1.at in cc)
function_told os (n ∷ c ∷ j ∷ []) =
    decided_by (IsFunctionAt os c n j) (IsToldAt (OfFunction os) (n ∷ c ∷ j ∷ []))
    (λ h. (
      faults.Site Misaligned h.1.x.object h.1.section.name h.1.x.offset,
      record {
        x = h.1.x;
        j = j;
        symbol = h.1.symbol;
        section = h.1.section;
        there = h.1.function;
        bad = h.1.holds;
        at = ap (λ (m : ℕ). n ∷ m ∷ j ∷ []) h.0 ∙ ap (λ (m : ℕ). m ∷ 1 ∷ j ∷ []) (sym h.1.object);
        told = refl;
      },
    ))
    (λ h.
    let same = three n c j h.1.x.object 1 h.1.j h.1.at in
    subst (IsFunctionAt os c n) same.2 (sym same.1, record { x = h.1.x; symbol = h.1.symbol; section = h.1.section; function = h.1.there; object = same.0; holds = h.1.bad }))
    (decided_both (c ≡ 1) (IsFunctionBy os IsUneven n j) (nat_equal c 1) (decided_function os IsUneven (λ x i s t.
    decided_either (x.offset % WORD_SIZE ≢ 0) (x.size % WORD_SIZE ≢ 0) (decided_unequal (x.offset % WORD_SIZE) 0) (decided_unequal (x.size % WORD_SIZE) 0)) n j))

-- ---- the quadwords of named areas

abbrev IsBadEar : Symbol → DataPlace → Type 0
IsBadEar s lies = (s.value % QUAD_SIZE ≢ 0) ⊎ (lies.section.size < s.value + QUAD_SIZE)

abbrev IsEarAt : List Object → ℕ → ℕ → ℕ → Type 0
IsEarAt os c n j = (c ≡ 2) × IsSomeOf (symbol_at os n j) (λ s. IsSomeOf (ear_place os n s) (IsBadEar s))

ear_told : (os : List Object) (place : List ℕ) → Decided (IsToldAt (OfEar os) place)
ear_told os [] = inr (λ h. let e = h.1.at in cc)
ear_told os (n ∷ []) = inr (λ h. let e = h.1.at in cc)
ear_told os (n ∷ k ∷ []) = inr (λ h. let e = h.1.at in cc)
ear_told os (n ∷ c ∷ k ∷ m ∷ ms) = inr (λ h. let e = h.1.at in cc)
ear_told os (n ∷ c ∷ j ∷ []) =
    decided_by (IsEarAt os c n j) (IsToldAt (OfEar os) (n ∷ c ∷ j ∷ []))
    (λ h. (
      faults.Site Misaligned n h.1.2.0.section.name h.1.0.value,
      record {
        n = n;
        j = j;
        symbol = h.1.0;
        there = h.1.1;
        lies = h.1.2.0;
        ear = h.1.2.1;
        bad = h.1.2.2;
        at = ap (λ (m : ℕ). n ∷ m ∷ j ∷ []) h.0;
        told = refl;
      },
    ))
    (λ h.
    let same = three n c j h.1.n 2 h.1.j h.1.at in
    subst (λ (m : ℕ). IsEarAt os c m j) same.0 (subst (λ (m : ℕ). IsEarAt os c h.1.n m) same.2 (sym same.1, (h.1.symbol, h.1.there, (h.1.lies, h.1.ear, h.1.bad)))))
    (decided_both (c ≡ 2) (IsSomeOf (symbol_at os n j) (λ s. IsSomeOf (ear_place os n s) (IsBadEar s))) (nat_equal c 2)
    (decided_some (symbol_at os n j) (λ s. IsSomeOf (ear_place os n s) (IsBadEar s)) (λ s at. decided_some (ear_place os n s) (IsBadEar s) (λ lies found.
    decided_either (s.value % QUAD_SIZE ≢ 0) (lies.section.size < s.value + QUAD_SIZE) (decided_unequal (s.value % QUAD_SIZE) 0) (decided_less lies.section.size (s.value + QUAD_SIZE))))))

-- ---- all three

abbrev IsEither : Shown → Shown → Shown
IsEither one other = λ place fault. one place fault ⊎ other place fault

told_either : (one other : Shown) (place : List ℕ) → Decided (IsToldAt one place) → Decided (IsToldAt other place) → Decided (IsToldAt (IsEither one other) place)
told_either one other place (inl a) b = inl (a.0, inl a.1)
told_either one other place (inr none) (inl b) = inl (b.0, inr b.1)
told_either one other place (inr none) (inr neither) = inr (λ h. by h.0 h.1)
  where
    by : (fault : LiftFault) → one place fault ⊎ other place fault → ⊥
    by fault (inl a) = none (fault, a)
    by fault (inr b) = neither (fault, b)

abbrev object_bound : List Object → List ℕ → ℕ
object_bound os [] = length os
object_bound os (n ∷ []) = 3
object_bound os (n ∷ c ∷ ns) = length (sections_of os n) + length (symbols_of os n)

bounded : (os : List Object) (place : List ℕ) (fault : LiftFault) → Shows Misaligned os ([]) place fault → IsBoundedPlace 3 (object_bound os) place
bounded os place fault (inl shown) =
    let within = slice_get_within (sections_of os shown.n) shown.k shown.section shown.there in
    let less : shown.k < length (sections_of os shown.n) + length (symbols_of os shown.n) = omega arith in
    subst (IsBoundedPlace 3 (object_bound os)) (sym shown.at) (section_of_object os shown.n shown.k shown.section shown.there, (lit≤ tt, (less, tt)))
bounded os place fault (inr (inl shown)) =
    let within = slice_get_within (symbols_of os shown.x.object) shown.j shown.symbol shown.there.symbol in
    let less : shown.j < length (sections_of os shown.x.object) + length (symbols_of os shown.x.object) = omega arith in
    subst (IsBoundedPlace 3 (object_bound os)) (sym shown.at) ((object_of_symbol os shown.x.object shown.j shown.symbol shown.there.symbol).1.within, (lit≤ tt, (less, tt)))
bounded os place fault (inr (inr shown)) =
    let within = slice_get_within (symbols_of os shown.n) shown.j shown.symbol shown.there in
    let less : shown.j < length (sections_of os shown.n) + length (symbols_of os shown.n) = omega arith in
    subst (IsBoundedPlace 3 (object_bound os)) (sym shown.at) ((object_of_symbol os shown.n shown.j shown.symbol shown.there).1.within, (lit≤ tt, (less, tt)))

pub misaligned_first : (os : List Object) → IsFirstOrNowhere (Shows Misaligned os ([]))
misaligned_first os = first_or_nowhere 3 (object_bound os) (Shows Misaligned os ([]))
    (λ place. told_either (OfSection os) (IsEither (OfFunction os) (OfEar os)) place (section_told os place) (told_either (OfFunction os) (OfEar os) place (function_told os place) (ear_told os place)))
    (bounded os)

-- ---- the entry

abbrev IsNamedGlobal : List ℕ → Extent → ℕ → Symbol → Section → Type 0
IsNamedGlobal name x j s t = (s.global ≡ true) × (s.name ≡ name)

abbrev pub HasEntry : List Object → List ℕ → Type 0
HasEntry os name = (x : Extent) × IsEntry os name x

pub decided_entry : (os : List Object) (name : List ℕ) → Decided (HasEntry os name)
decided_entry os name =
    decided_by (IsFunctionAnywhere os (IsNamedGlobal name)) (HasEntry os name)
    (λ f. (f.is.is.x, record { j = f.is.j; symbol = f.is.is.symbol; section = f.is.is.section; function = f.is.is.function; global = f.is.is.holds.0; named = f.is.is.holds.1 }))
    (λ h. record { n = h.0.object; is = record { j = h.1.j; is = record { x = h.0; symbol = h.1.symbol; section = h.1.section; function = h.1.function; object = refl; holds = (h.1.global, h.1.named) } } })
    (decided_anywhere os (IsNamedGlobal name) (λ x j s t. decided_both (s.global ≡ true) (s.name ≡ name) (decided_true s.global) (decided_name s.name name)))

entry_told : (os : List Object) (name : List ℕ) (place : List ℕ) → Decided (IsToldAt (HasNoEntry os name) place)
entry_told os name (n ∷ ns) = inr (λ h. let e = h.1.at in cc)
entry_told os name [] =
    decided_by (HasEntry os name → ⊥) (IsToldAt (HasNoEntry os name) ([]))
    (λ none. (faults.NoEntry, record { none = λ x is. none (x, is); at = refl; told = refl }))
    (λ h is. h.1.none is.0 is.1)
    (decided_not (HasEntry os name) (decided_entry os name))

pub entry_first : (os : List Object) (name : List ℕ) → IsFirstOrNowhere (HasNoEntry os name)
entry_first os name = first_or_nowhere 0 length (HasNoEntry os name) (entry_told os name) (λ place fault shown. subst (IsBoundedPlace 0 length) (sym shown.at) tt)
