-- The passes over words of sections of code: those in no function, and those in two.
use Rattle.std.proofs.Common.{◌≡◌, ◌≢◌, ℕ, zero, suc, ◌+◌, ◌*◌, ◌%◌, ◌/◌, ◌<◌, ◌≤◌, ◌⊎◌, max, Bool, true, List, [], ◌∷◌, length, All, Option, Some, None, MatchOption, Result, Ok, Err, slice_get, filter, refl, sym, ap, subst, ◌∙◌, inl, inr, arith}
use Rattle.std.specs.Prelude.{IfErr, IsErrAnd, OnOk}
use Rattle.std.proofs.lemmas.Bool.{cases_Bool, cases_lt}
use Rattle.std.proofs.lemmas.Option.{none-some, same_Some, slice_get_within}
use Rattle.spu_word.specs.declared.limits.TheConstants.{WORD_SIZE}
use Rattle.spu_word.specs.Bytes.{be_number}
use Rattle.spu_elf.specs.WellFormed.{IsWellFormed}
use Rattle.spu_elf.specs.declared.objects.SecKind.TheVariants as kinds
use Rattle.spu_elf.specs.declared.objects.Section.{Section}
use Rattle.spu_elf.specs.declared.objects.Object.{Object}
use Rattle.spu_lift.specs.declared.fault.LiftKind.TheVariants.{CodeOutsideFunction, FunctionOverlap, Misaligned}
use Rattle.spu_lift.specs.declared.fault.LiftFault.{LiftFault}
use Rattle.spu_lift.specs.declared.fault.LiftFault.TheVariants as faults
use Rattle.spu_lift.specs.declared.relocations.Spot.{Spot}
use Rattle.spu_lift.specs.declared.functions.FunctionSymbol.{FunctionSymbol}
use Rattle.spu_lift.specs.Tables.{section_at}
use Rattle.spu_lift.specs.Extents.{Extent, Holds, IsEarlier, IsExtent}
use Rattle.spu_lift.specs.LiftFaults.{IsOutside, IsShared, Shows}
use Rattle.spu_lift.specs.FunctionTables.{AreSymbolsOf, HasSymbol, IsFirstShared, extent_in, function_symbol, is_in}
use Rattle.spu_lift.specs.Checks.{AreCovered, AreFillers, AreLaidOut, IsAnswer, IsFillerAt, IsFirstStray, IsFirstUncovered, IsHeld, IsNowhere, IsNowhereBelow, IsTold, within}
use Rattle.spu_lift.proofs.ExtentFacts.{extent_fits, object_at, section_of_object}
use Rattle.spu_lift.proofs.FirstPlaces.{Begins, nowhere_past, told_first}
use Rattle.spu_lift.proofs.PlaceLemmas.{in_both, in_parts}
use Rattle.spu_lift.proofs.NumberedFunctions.{aligned_function}

-- ---- words outside of functions

-- what is known when the first functions have been passed
pub record IsPassed (bytes : List ℕ) (fs : List FunctionSymbol) (index covered : ℕ) : Type 0 where
  pub words : AreCovered bytes fs covered
  pub ends : (j : ℕ) (f : FunctionSymbol) → j < index → slice_get fs j ≡ Some f → f.offset + f.size ≤ WORD_SIZE * covered
  pub inside : WORD_SIZE * covered ≤ length bytes

pub one_passed : (bytes : List ℕ) (fs : List FunctionSymbol) (index covered next : ℕ) (f : FunctionSymbol) → AreLaidOut (length bytes) fs → IsPassed bytes fs index covered → slice_get fs index ≡ Some f
    → AreFillers bytes covered (f.offset / WORD_SIZE) → next ≡ max covered ((f.offset + f.size) / WORD_SIZE) → IsPassed bytes fs (index + 1) next
one_passed bytes fs index covered next f laid passed there fillers is =
    let start = laid.starts index f there in
    let even = laid.sizes index f there in
    let end = laid.inside index f there in
    let inside = passed.inside in
    record {
      words = λ i less. elim (cases_lt i covered) [
        | inl before ↦ passed.words i before
        | inr behind ↦ elim (cases_lt i (f.offset / WORD_SIZE)) [
          | inl outside ↦ inl (fillers i behind outside)
          | inr held ↦ inr (record { i = index; f = f; there = there; from = omega arith; to = omega arith })
        ]
      ];
      ends = λ j g less at. elim (cases_lt j index) [
        | inl before ↦ let old = passed.ends j g before at in omega arith
        | inr last ↦
            let same : index ≡ j = omega arith in
            let these : f ≡ g = same_Some f g (sym there ∙ ap (slice_get fs) same ∙ at) in
            subst (λ (x : FunctionSymbol). x.offset + x.size ≤ WORD_SIZE * next) these (omega arith)
      ];
      inside = omega arith;
    }

-- a word in front of the next function that isn't a filler
pub stray_between : (bytes : List ℕ) (fs : List FunctionSymbol) (index covered i : ℕ) (f : FunctionSymbol) → AreLaidOut (length bytes) fs → IsPassed bytes fs index covered → slice_get fs index ≡ Some f
    → IsFirstStray bytes covered (f.offset / WORD_SIZE) i → IsFirstUncovered bytes fs i
stray_between bytes fs index covered i f laid passed there first =
    let start = laid.starts index f there in
    let end = laid.inside index f there in
    let behind = first.behind in
    let less = first.less in
    record {
      inside = omega arith;
      stray = first.stray;
      free = λ held. elim (cases_lt held.i index) [
        | inl before ↦
            let ended = passed.ends held.i held.f before held.there in
            let to = held.to in
            absurd (omega arith)
        | inr after ↦
            let order = laid.ordered index held.i f held.f after there held.there in
            let from = held.from in
            absurd (omega arith)
      ];
      before = λ j below. elim (cases_lt j covered) [
        | inl before ↦ passed.words j before
        | inr after ↦ inl (first.before j after below)
      ];
    }

-- or behind all functions
pub stray_behind : (bytes : List ℕ) (fs : List FunctionSymbol) (index covered i : ℕ) → length fs ≤ index → IsPassed bytes fs index covered → IsFirstStray bytes covered (length bytes / WORD_SIZE) i → IsFirstUncovered bytes fs i
stray_behind bytes fs index covered i all passed first =
    let behind = first.behind in
    let less = first.less in
    record {
      inside = omega arith;
      stray = first.stray;
      free = λ held.
          let within = slice_get_within fs held.i held.f held.there in
          let ended = passed.ends held.i held.f (omega arith) held.there in
          let to = held.to in
          absurd (omega arith);
      before = λ j below. elim (cases_lt j covered) [
        | inl before ↦ passed.words j before
        | inr after ↦ inl (first.before j after below)
      ];
    }

pub all_covered : (bytes : List ℕ) (fs : List FunctionSymbol) (index covered : ℕ) → IsPassed bytes fs index covered → AreFillers bytes covered (length bytes / WORD_SIZE) → AreCovered bytes fs (length bytes / WORD_SIZE)
all_covered bytes fs index covered passed fillers i less = elim (cases_lt i covered) [
  | inl before ↦ passed.words i before
  | inr after ↦ inl (fillers i after less)
]

-- what the words behind all functions show
pub last_words : (bytes : List ℕ) (fs : List FunctionSymbol) (index covered : ℕ) (o : Option ℕ) → length fs ≤ index → IsPassed bytes fs index covered
    → MatchOption o (AreFillers bytes covered (length bytes / WORD_SIZE)) (IsFirstStray bytes covered (length bytes / WORD_SIZE)) → MatchOption o (AreCovered bytes fs (length bytes / WORD_SIZE)) (IsFirstUncovered bytes fs)
last_words bytes fs index covered None all passed fillers = all_covered bytes fs index covered passed fillers
last_words bytes fs index covered (Some i) all passed first = stray_behind bytes fs index covered i all passed first

-- ---- a part of a list

in_filter : {X : Type 0} (p : X → Bool) (xs : List X) (i : ℕ) (x : X) → slice_get (filter p xs) i ≡ Some x → (k : ℕ) × (slice_get xs k ≡ Some x) × (p x ≡ true)
in_filter p [] i x there = absurd (none-some x there)
in_filter p (z ∷ zs) zero x there = elim (cases_Bool (p z)) [
  | inl is ↦
      let same : z ≡ x = same_Some z x (rw is at there) in
      (0, ap Some same, ap p (sym same) ∙ is)
  | inr not ↦ let rest = in_filter p zs 0 x (rw not at there) in (suc rest.0, rest.1, rest.2)
]
in_filter p (z ∷ zs) (suc i) x there = elim (cases_Bool (p z)) [
  | inl is ↦ let rest = in_filter p zs i x (rw is at there) in (suc rest.0, rest.1, rest.2)
  | inr not ↦ let rest = in_filter p zs (suc i) x (rw not at there) in (suc rest.0, rest.1, rest.2)
]

have_filter : {X : Type 0} (p : X → Bool) (xs : List X) (k : ℕ) (x : X) → slice_get xs k ≡ Some x → p x ≡ true → (i : ℕ) × (slice_get (filter p xs) i ≡ Some x)
have_filter p [] k x there is = absurd (none-some x there)
have_filter p (z ∷ zs) zero x there is =
    let same : z ≡ x = same_Some z x there in
    let here : p z ≡ true = ap p same ∙ is in
    (0, rw here there)
have_filter p (z ∷ zs) (suc k) x there is =
    let rest = have_filter p zs k x there is in
    elim (cases_Bool (p z)) [
      | inl here ↦ (suc rest.0, rw here rest.1)
      | inr not ↦ (rest.0, rw not rest.1)
    ]

-- in the order of the whole
filter_order : {X : Type 0} (p : X → Bool) (xs : List X) (i j : ℕ) (x y : X) → i ≤ j → slice_get (filter p xs) i ≡ Some x → slice_get (filter p xs) j ≡ Some y
    → (k : ℕ) × (m : ℕ) × (k ≤ m) × (slice_get xs k ≡ Some x) × (slice_get xs m ≡ Some y)
filter_order p [] i j x y le one two = absurd (none-some x one)
filter_order p (z ∷ zs) zero j x y le one two = elim (cases_Bool (p z)) [
  | inl is ↦
      let same : z ≡ x = same_Some z x (rw is at one) in
      let other = in_filter p (z ∷ zs) j y two in
      (0, other.0, omega arith, ap Some same, other.1)
  | inr not ↦ let rest = filter_order p zs 0 j x y le (rw not at one) (rw not at two) in (suc rest.0, suc rest.1, omega (arith, rest.2), rest.3, rest.4)
]
filter_order p (z ∷ zs) (suc i) zero x y le one two = absurd (omega arith)
filter_order p (z ∷ zs) (suc i) (suc j) x y le one two = elim (cases_Bool (p z)) [
  | inl is ↦ let rest = filter_order p zs i j x y (omega arith) (rw is at one) (rw is at two) in (suc rest.0, suc rest.1, omega (arith, rest.2), rest.3, rest.4)
  | inr not ↦ let rest = filter_order p zs (suc i) (suc j) x y le (rw not at one) (rw not at two) in (suc rest.0, suc rest.1, omega (arith, rest.2), rest.3, rest.4)
]

-- ---- the functions of a section

abbrev pub those_in : ℕ → ℕ → List FunctionSymbol → List FunctionSymbol
those_in n k fs = filter (λ (f : FunctionSymbol). is_in f n k) fs

-- a symbol of the section
record IsOne (os : List Object) (f : FunctionSymbol) (n k : ℕ) : Type 0 where
  pub has : HasSymbol os f
  pub object : f.object ≡ n
  pub section : f.section ≡ k

one_of : (os : List Object) (fs : List FunctionSymbol) (n k i : ℕ) (f : FunctionSymbol) → AreSymbolsOf os fs → slice_get (those_in n k fs) i ≡ Some f → IsOne os f n k
one_of os fs n k i f symbols there =
    let at = in_filter (λ (g : FunctionSymbol). is_in g n k) fs i f there in
    let parts = in_parts f n k at.2 in
    record { has = symbols.each at.0 f at.1; object = parts.0; section = parts.1 }

pub laid_out : (os : List Object) (fs : List FunctionSymbol) (n k : ℕ) (t : Section) → All IsWellFormed os → AreSymbolsOf os fs → IsNowhere (Shows Misaligned os ([])) → section_at os n k ≡ Some t → AreLaidOut (length t.bytes) (those_in n k fs)
laid_out os fs n k t formed symbols aligned there = record {
  ordered = ordered;
  starts = λ i f at. (aligned_function os ([]) f aligned (one_of os fs n k i f symbols at).has).offset;
  sizes = λ i f at. (aligned_function os ([]) f aligned (one_of os fs n k i f symbols at).has).size;
  inside = inside;
}
  where
    ordered : (i j : ℕ) (f g : FunctionSymbol) → i ≤ j → slice_get (those_in n k fs) i ≡ Some f → slice_get (those_in n k fs) j ≡ Some g → f.offset ≤ g.offset
    ordered i j f g le one two =
        let at = filter_order (λ (x : FunctionSymbol). is_in x n k) fs i j f g le one two in
        let first = one_of os fs n k i f symbols one in
        let second = one_of os fs n k j g symbols two in
        let object : g.object ≡ f.object = second.object ∙ sym first.object in
        let section : g.section ≡ f.section = second.section ∙ sym first.section in
        elim (cases_lt g.offset f.offset) [
          | inl less ↦ absurd (symbols.sorted at.0 at.1 f g at.2 at.3 at.4 (inr (object, inr (section, inl less))))
          | inr more ↦ more
        ]

    inside : (i : ℕ) (f : FunctionSymbol) → slice_get (those_in n k fs) i ≡ Some f → f.offset + f.size ≤ length t.bytes
    inside i f at =
        let one = one_of os fs n k i f symbols at in
        let has = one.has in
        let fits = extent_fits os formed (extent_in f) f.symbol has.s has.t has.is.function in
        let section : section_at os n k ≡ Some has.t = ap (λ m. section_at os m k) (sym one.object) ∙ ap (section_at os f.object) (sym one.section) ∙ has.is.function.section in
        let same : has.t ≡ t = same_Some has.t t (sym section ∙ there) in
        let ends : f.offset + f.size ≤ has.t.size = fits.ends in
        let filled : length has.t.bytes ≡ has.t.size = fits.filled in
        subst (λ (u : Section). f.offset + f.size ≤ length u.bytes) same (omega arith)

-- ---- what is shown in a section

-- the place of a word of the section
word_at : (n k m j i : ℕ) (rest : List ℕ) → n ∷ k ∷ rest ≡ m ∷ j ∷ (WORD_SIZE * i) ∷ [] → (n ≡ m) × (k ≡ j) × (rest ≡ (WORD_SIZE * i) ∷ [])
word_at n k m j i rest is = (cc, cc, cc)

-- a word that is a filler or held isn't outside
not_outside : (os : List Object) (fs : List FunctionSymbol) (n k : ℕ) (bytes : List ℕ) (i : ℕ) → AreSymbolsOf os fs → IsFillerAt bytes i ⊎ IsHeld (those_in n k fs) (WORD_SIZE * i) → IsOutside os n k (WORD_SIZE * i) (be_number bytes (WORD_SIZE * i)) → ⊥
not_outside os fs n k bytes i symbols (inl filler) outside = outside.1 filler
not_outside os fs n k bytes i symbols (inr held) outside =
    let one = one_of os fs n k held.i held.f symbols held.there in
    outside.0 (extent_in held.f) (held.f.symbol, one.has.s, one.has.t, one.has.is.function) (record { object = one.object; section = one.section; from = held.from; to = held.to })

is_outside : (os : List Object) (fs : List FunctionSymbol) (n k : ℕ) (bytes : List ℕ) (i : ℕ) → AreSymbolsOf os fs → (IsFillerAt bytes i → ⊥) → (IsHeld (those_in n k fs) (WORD_SIZE * i) → ⊥)
    → IsOutside os n k (WORD_SIZE * i) (be_number bytes (WORD_SIZE * i))
is_outside os fs n k bytes i symbols stray free = (away, stray)
  where
    away : (x : Extent) → IsExtent os x → Holds x n k (WORD_SIZE * i) → ⊥
    away x (j, s, t, function) holds =
        let at = symbols.all x j s t function in
        let here = have_filter (λ (g : FunctionSymbol). is_in g n k) fs at.0 (function_symbol x j s) at.1 (in_both (function_symbol x j s) n k holds.object holds.section) in
        free (record { i = here.0; f = function_symbol x j s; there = here.1; from = holds.from; to = holds.to })

abbrev pub ShowsStray : List Object → ℕ → ℕ → List ℕ → LiftFault → Type 0
ShowsStray os n k = within k (within n (Shows CodeOutsideFunction os ([])))

-- a shown word of the section
record IsStrayIn (os : List Object) (n k : ℕ) (t : Section) (rest : List ℕ) : Type 0 where
  pub i : ℕ
  pub inside : WORD_SIZE * i + WORD_SIZE ≤ t.size
  pub code : t.kind ≡ kinds.Code
  pub outside : IsOutside os n k (WORD_SIZE * i) (be_number t.bytes (WORD_SIZE * i))
  pub at : rest ≡ (WORD_SIZE * i) ∷ []

stray_in : (os : List Object) (n k : ℕ) (t : Section) (rest : List ℕ) (fault : LiftFault) → section_at os n k ≡ Some t → ShowsStray os n k rest fault → IsStrayIn os n k t rest
stray_in os n k t rest fault there shown =
    let is = word_at n k shown.n shown.k shown.i rest shown.at in
    let section : section_at os n k ≡ Some shown.section = ap (λ m. section_at os m k) is.0 ∙ ap (section_at os shown.n) is.1 ∙ shown.there in
    let same : shown.section ≡ t = same_Some shown.section t (sym section ∙ there) in
    let offset : ℕ = WORD_SIZE * shown.i in
    record {
      i = shown.i;
      inside = subst (λ (u : Section). WORD_SIZE * shown.i + WORD_SIZE ≤ u.size) same shown.inside;
      code = ap (λ (u : Section). u.kind) (sym same) ∙ shown.code;
      outside = subst (λ (u : Section). IsOutside os n k (WORD_SIZE * shown.i) (be_number u.bytes (WORD_SIZE * shown.i))) same
          (subst (λ (m : ℕ). IsOutside os m k (WORD_SIZE * shown.i) (be_number shown.section.bytes (WORD_SIZE * shown.i))) (sym is.0)
          (subst (λ (j : ℕ). IsOutside os shown.n j (WORD_SIZE * shown.i) (be_number shown.section.bytes (WORD_SIZE * shown.i))) (sym is.1) shown.bad));
      at = is.2;
    }

pub no_code : (os : List Object) (n k : ℕ) (t : Section) → section_at os n k ≡ Some t → t.kind ≢ kinds.Code → IsNowhere (ShowsStray os n k)
no_code os n k t there other rest fault shown = other (stray_in os n k t rest fault there shown).code

pub no_stray : (os : List Object) (fs : List FunctionSymbol) (n k : ℕ) (t : Section) → AreSymbolsOf os fs → section_at os n k ≡ Some t → length t.bytes ≡ t.size → AreCovered t.bytes (those_in n k fs) (length t.bytes / WORD_SIZE)
    → IsNowhere (ShowsStray os n k)
no_stray os fs n k t symbols there filled covered rest fault shown =
    let is = stray_in os n k t rest fault there shown in
    let inside = is.inside in
    not_outside os fs n k t.bytes is.i symbols (covered is.i (omega arith)) is.outside

pub first_stray_shown : (os : List Object) (fs : List FunctionSymbol) (n k : ℕ) (t : Section) (i : ℕ) (told : LiftFault) → AreSymbolsOf os fs → section_at os n k ≡ Some t → t.kind ≡ kinds.Code → length t.bytes ≡ t.size
    → IsFirstUncovered t.bytes (those_in n k fs) i → IsTold told (faults.Site CodeOutsideFunction n t.name (WORD_SIZE * i)) → IsAnswer (ShowsStray os n k) told
first_stray_shown os fs n k t i told symbols there code filled first tells =
    let inside = first.inside in
    told_first (ShowsStray os n k) told (faults.Site CodeOutsideFunction n t.name (WORD_SIZE * i)) tells (record {
      place = (WORD_SIZE * i) ∷ [];
      here = record {
        n = n;
        k = k;
        i = i;
        section = t;
        there = there;
        code = code;
        inside = omega arith;
        bad = is_outside os fs n k t.bytes i symbols first.stray first.free;
        at = refl;
        told = refl;
      };
      first = λ q other earlier shown.
          let is = stray_in os n k t q other there shown in
          before is.i is.outside (subst (λ (p : List ℕ). IsEarlier p ((WORD_SIZE * i) ∷ [])) is.at earlier);
    })
  where
    before : (j : ℕ) → IsOutside os n k (WORD_SIZE * j) (be_number t.bytes (WORD_SIZE * j)) → (WORD_SIZE * j < WORD_SIZE * i) ⊎ ((WORD_SIZE * j ≡ WORD_SIZE * i) × ⊥) → ⊥
    before j outside (inl less) = not_outside os fs n k t.bytes j symbols (first.before j (omega arith)) outside
    before j outside (inr (same, none)) = none

-- ---- sections of an object, and objects

abbrev pub ShowsStrays : List Object → List ℕ → LiftFault → Type 0
ShowsStrays os = Shows CodeOutsideFunction os ([])

pub sections_passed : (os : List Object) (n j : ℕ) (o : Object) → slice_get os n ≡ Some o → length o.sections ≤ j → IsNowhereBelow (within n (ShowsStrays os)) j → IsNowhere (within n (ShowsStrays os))
sections_passed os n j o there all below = nowhere_past (within n (ShowsStrays os)) (length o.sections) j all begins below
  where
    begins : (rest : List ℕ) (fault : LiftFault) → ShowsStrays os (n ∷ rest) fault → Begins (length o.sections) rest
    begins rest fault shown =
        let at : n ∷ rest ≡ shown.n ∷ shown.k ∷ (WORD_SIZE * shown.i) ∷ [] = shown.at in
        let object : n ≡ shown.n = cc in
        let these : rest ≡ shown.k ∷ (WORD_SIZE * shown.i) ∷ [] = cc in
        let here : slice_get o.sections shown.k ≡ Some shown.section = ap (λ ts. slice_get ts shown.k) (sym (object_at os n o there).sections) ∙ ap (λ m. section_at os m shown.k) object ∙ shown.there in
        subst (Begins (length o.sections)) (sym these) (slice_get_within o.sections shown.k shown.section here)

pub strays_passed : (os : List Object) (i : ℕ) → length os ≤ i → IsNowhereBelow (ShowsStrays os) i → IsNowhere (ShowsStrays os)
strays_passed os i all below = nowhere_past (ShowsStrays os) (length os) i all begins below
  where
    begins : (place : List ℕ) (fault : LiftFault) → ShowsStrays os place fault → Begins (length os) place
    begins place fault shown = subst (Begins (length os)) (sym shown.at) (section_of_object os shown.n shown.k shown.section shown.there)

-- ---- words in two functions

abbrev pub ShowsShared : List Object → List ℕ → LiftFault → Type 0
ShowsShared os = Shows FunctionOverlap os ([])

pub no_shared : (os : List Object) → ((n k offset w : ℕ) → IsShared os n k offset w → ⊥) → IsNowhere (ShowsShared os)
no_shared os none place fault shown = none shown.n shown.k (WORD_SIZE * shown.i) (be_number shown.section.bytes (WORD_SIZE * shown.i)) shown.bad

-- where an extent that holds a place lies
record IsHolder (os : List Object) (q : Spot) (x : Extent) : Type 0 where
  pub t : Section
  pub there : section_at os q.object q.section ≡ Some t
  pub code : t.kind ≡ kinds.Code
  pub start : x.offset % WORD_SIZE ≡ 0
  pub size : x.size % WORD_SIZE ≡ 0
  pub ends : x.offset + x.size ≤ t.size

holder : (os : List Object) (q : Spot) (x : Extent) → All IsWellFormed os → IsNowhere (Shows Misaligned os ([])) → IsExtent os x → Holds x q.object q.section q.offset → IsHolder os q x
holder os q x formed aligned (j, s, t, function) holds =
    let fits = extent_fits os formed x j s t function in
    let even = aligned_function os ([]) (function_symbol x j s) aligned (record { s = s; t = t; is = record { function = function; local = refl } }) in
    record {
      t = t;
      there = ap (λ m. section_at os m q.section) (sym holds.object) ∙ ap (section_at os x.object) (sym holds.section) ∙ function.section;
      code = function.code;
      start = even.offset;
      size = even.size;
      ends = fits.ends;
    }

pub shared_there : (os : List Object) (q : Spot) → All IsWellFormed os → IsNowhere (Shows Misaligned os ([])) → IsFirstShared os q → (t : Section) × (section_at os q.object q.section ≡ Some t)
shared_there os q formed aligned first =
    let both = first.shared 0 in
    let at = holder os q both.x formed aligned both.one both.in_one in
    (at.t, at.there)

pub shared_first : (os : List Object) (q : Spot) (told : LiftFault) → All IsWellFormed os → IsNowhere (Shows Misaligned os ([])) → IsFirstShared os q
    → ((t : Section) → section_at os q.object q.section ≡ Some t → IsTold told (faults.Site FunctionOverlap q.object t.name q.offset)) → IsAnswer (ShowsShared os) told
shared_first os q told formed aligned first tells =
    let both = first.shared 0 in
    let one = holder os q both.x formed aligned both.one both.in_one in
    let other = holder os q both.y formed aligned both.other both.in_other in
    let even : WORD_SIZE * (q.offset / WORD_SIZE) ≡ q.offset = on_word 0 both in
    let from = both.in_one.from in
    let to = both.in_one.to in
    let start = one.start in
    let size = one.size in
    let ends = one.ends in
    told_first (ShowsShared os) told (faults.Site FunctionOverlap q.object one.t.name q.offset) (tells one.t one.there) (record {
      place = q.object ∷ q.section ∷ q.offset ∷ [];
      here = record {
        n = q.object;
        k = q.section;
        i = q.offset / WORD_SIZE;
        section = one.t;
        there = one.there;
        code = one.code;
        inside = omega arith;
        bad = subst (λ o. IsShared os q.object q.section o (be_number one.t.bytes (WORD_SIZE * (q.offset / WORD_SIZE)))) (sym even) (first.shared (be_number one.t.bytes (WORD_SIZE * (q.offset / WORD_SIZE))));
        at = ap (λ o. q.object ∷ q.section ∷ o ∷ []) (sym even);
        told = ap (faults.Site FunctionOverlap q.object one.t.name) (sym even);
      };
      first = λ p fault earlier shown.
          first.first shown.n shown.k (WORD_SIZE * shown.i) (be_number shown.section.bytes (WORD_SIZE * shown.i)) (subst (λ (r : List ℕ). IsEarlier r (q.object ∷ q.section ∷ q.offset ∷ [])) shown.at earlier) shown.bad;
    })
  where
    -- the first shared place is where a word begins: that word is shared from its first byte on
    on_word : (w : ℕ) → IsShared os q.object q.section q.offset w → WORD_SIZE * (q.offset / WORD_SIZE) ≡ q.offset
    on_word w both = elim (cases_lt (WORD_SIZE * (q.offset / WORD_SIZE)) q.offset) [
      | inr even ↦ omega arith
      | inl less ↦
          let one = holder os q both.x formed aligned both.one both.in_one in
          let other = holder os q both.y formed aligned both.other both.in_other in
          let start = one.start in
          let begin = other.start in
          let from = both.in_one.from in
          let to = both.in_one.to in
          let since = both.in_other.from in
          let until = both.in_other.to in
          absurd (first.first q.object q.section (WORD_SIZE * (q.offset / WORD_SIZE)) w (inr (refl, inr (refl, inl less))) (record {
            x = both.x;
            y = both.y;
            one = both.one;
            other = both.other;
            in_one = record { object = both.in_one.object; section = both.in_one.section; from = omega arith; to = omega arith };
            in_other = record { object = both.in_other.object; section = both.in_other.section; from = omega arith; to = omega arith };
            apart = both.apart;
          }))
    ]

-- what is told of it is the answer
pub shared_answer : (os : List Object) (q : Spot) (r : Result (Unit {0}) LiftFault) → All IsWellFormed os → IsNowhere (Shows Misaligned os ([])) → IsFirstShared os q
    → ((t : Section) → section_at os q.object q.section ≡ Some t → IsErrAnd r (λ f. IsTold f (faults.Site FunctionOverlap q.object t.name q.offset))) → IfErr r (IsAnswer (ShowsShared os))
shared_answer os q (Ok x) formed aligned first tells = tt
shared_answer os q (Err f) formed aligned first tells = shared_first os q f formed aligned first tells

pub shared_fails : (os : List Object) (q : Spot) (r : Result (Unit {0}) LiftFault) (P : Type 0) → All IsWellFormed os → IsNowhere (Shows Misaligned os ([])) → IsFirstShared os q
    → ((t : Section) → section_at os q.object q.section ≡ Some t → IsErrAnd r (λ f. IsTold f (faults.Site FunctionOverlap q.object t.name q.offset))) → OnOk r P
shared_fails os q (Ok x) P formed aligned first tells = let at = shared_there os q formed aligned first in absurd (tells at.0 at.1)
shared_fails os q (Err f) P formed aligned first tells = tt
