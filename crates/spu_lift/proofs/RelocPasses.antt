-- The passes over relocations: what one shows, and the first that shows it by section and offset.
use Rattle.std.proofs.Common.{◌≡◌, ◌≢◌, ℕ, ◌+◌, ◌<◌, ◌≤◌, List, [], ◌∷◌, length, get_or, Option, Some, None, MatchOption, slice_get, refl, sym, ap, subst, ◌∙◌, inl, inr, arith, pos}
use Rattle.std.specs.Option.{option_map_or}
use Rattle.std.proofs.lemmas.Bool.{cases_lt}
use Rattle.std.proofs.lemmas.Option.{none-some, same_Some, slice_get-get_or, slice_get_within}
use Rattle.spu_elf.specs.Validity.{IsWellFormedSection, bytes_len}
use Rattle.spu_elf.specs.WellFormed.{IsWellFormed, IsWellFormedReloc}
use Rattle.spu_elf.specs.declared.objects.SecKind.{SecKind}
use Rattle.spu_elf.specs.declared.objects.SecKind.TheVariants as kinds
use Rattle.spu_elf.specs.declared.objects.Section.{Section}
use Rattle.spu_elf.specs.declared.objects.Symbol.{Symbol}
use Rattle.spu_elf.specs.declared.objects.Reloc.{Reloc}
use Rattle.spu_elf.specs.declared.objects.Object.{Object}
use Rattle.spu_lift.specs.declared.fault.LiftFault.{LiftFault}
use Rattle.spu_lift.specs.declared.relocation_checks.RelocationCheck.{RelocationCheck}
use Rattle.spu_lift.specs.Tables.{reloc_at, section_at}
use Rattle.spu_lift.specs.Extents.{IsEarlier}
use Rattle.spu_lift.specs.Checks.{IsAnswer, IsFirstOfTwo, IsFirstReloc, IsNoneBelow, IsNoneIn, IsNowhere, IsNowhereBelow, IsRelocBefore, IsRelocTold, IsShownBy, IsSoundReloc, ShowsReloc, within}
use Rattle.spu_lift.proofs.ExtentFacts.{IsObjectAt, object_at}
use Rattle.spu_lift.proofs.FirstPlaces.{Begins, all_at, none_below_more, nowhere_past, told_first}

-- ---- relocations of well-formed objects

filled : (k : SecKind) (size : ℕ) → k ≢ kinds.Zero → bytes_len k size ≡ size
filled kinds.Code size some = refl
filled kinds.Const size some = refl
filled kinds.Vars size some = refl
filled kinds.Zero size some = absurd (some refl)

pub formed_reloc : (o : Object) (i : ℕ) (r : Reloc) → IsWellFormed o → slice_get o.relocs i ≡ Some r → IsWellFormedReloc o.sections (length o.symbols) r
formed_reloc o i r formed at = all_at (IsWellFormedReloc o.sections (length o.symbols)) o.relocs i r formed.relocs at

pub sound_reloc : (os : List Object) (n i : ℕ) (o : Object) (r : Reloc) → IsWellFormed o → slice_get os n ≡ Some o → slice_get o.relocs i ≡ Some r → IsSoundReloc os n i r
sound_reloc os n i o r formed there at =
    let object = object_at os n o there in
    let well = formed_reloc o i r formed at in
    let t : Section = well.target.0 in
    let valid : IsWellFormedSection t = all_at IsWellFormedSection o.sections r.section t formed.sections well.target.1 in
    let bytes : length t.bytes ≡ t.size = valid.filled ∙ filled t.kind t.size well.target.2.filled in
    let inside = well.target.2.inside in
    let symbol = symbol_there o.symbols r.symbol well.known in
    record {
      there = ap (λ rs. slice_get rs i) object.relocs ∙ at;
      section = t;
      in_section = ap (λ ts. slice_get ts r.section) object.sections ∙ well.target.1;
      word = omega arith;
      symbol = symbol.0;
      named = ap (λ ss. slice_get ss r.symbol) object.symbols ∙ symbol.1;
    }
  where
    symbol_there : (ss : List Symbol) (j : ℕ) → j < length ss → (s : Symbol) × (slice_get ss j ≡ Some s)
    symbol_there [] j less = absurd (omega arith)
    symbol_there (s ∷ ss) j less = (get_or (s ∷ ss) j s, slice_get-get_or (s ∷ ss) j s less)

-- ---- the order of relocations

-- by section, offset and index
same_never : (r : Reloc) (i : ℕ) → IsRelocBefore r i r i → ⊥
same_never r i (inl less) = absurd (omega arith)
same_never r i (inr (e, inl less)) = absurd (omega arith)
same_never r i (inr (e, inr (f, inl less))) = absurd (omega arith)
same_never r i (inr (e, inr (f, inr (g, none)))) = none

abbrev Precedes : Reloc → Reloc → Type 0
Precedes r s = IsEarlier (r.section ∷ r.offset ∷ []) (s.section ∷ s.offset ∷ [])

-- what is before one that precedes another is before that other
along : (r s t : Reloc) (i j k : ℕ) → IsRelocBefore r i s j → Precedes s t → IsRelocBefore r i t k
along r s t i j k (inl a) (inl b) = inl (omega arith)
along r s t i j k (inl a) (inr (e, inl b)) = inl (omega arith)
along r s t i j k (inl a) (inr (e, inr (f, none))) = absurd none
along r s t i j k (inr (d, a)) (inl b) = inl (omega arith)
along r s t i j k (inr (d, inl a)) (inr (e, inl b)) = inr (omega arith, inl (omega arith))
along r s t i j k (inr (d, inl a)) (inr (e, inr (f, none))) = absurd none
along r s t i j k (inr (d, inr (g, a))) (inr (e, inl b)) = inr (omega arith, inl (omega arith))
along r s t i j k (inr (d, inr (g, a))) (inr (e, inr (f, none))) = absurd none

-- a later index is before only by section and offset
later : (r s : Reloc) (i j : ℕ) → j < i → IsRelocBefore r i s j → Precedes r s
later r s i j less (inl a) = inl a
later r s i j less (inr (d, inl a)) = inr (d, inl a)
later r s i j less (inr (d, inr (e, inl a))) = absurd (omega arith)
later r s i j less (inr (d, inr (e, inr (f, none)))) = absurd none

-- ---- one relocation more

-- none of those below an index is such, or the first of them
abbrev pub IsFirstBelow : (ℕ → Reloc → Type 0) → List Reloc → ℕ → Option Reloc → Type 0
IsFirstBelow bad rs i first = MatchOption first (IsNoneBelow bad rs i) (IsFirstReloc bad rs i)

pub first_skips : (bad : ℕ → Reloc → Type 0) (rs : List Reloc) (i : ℕ) (r : Reloc) (first : Option Reloc) → slice_get rs i ≡ Some r → (bad i r → ⊥) → IsFirstBelow bad rs i first → IsFirstBelow bad rs (i + 1) first
first_skips bad rs i r None there good none = none_below_more bad rs i r there good none
first_skips bad rs i r (Some f) there good first =
    let less = first.less in
    record {
      i = first.i;
      less = omega arith;
      there = first.there;
      such = first.such;
      before = λ j s less at is earlier. elim (cases_lt j i) [
        | inl below ↦ first.before j s below at is earlier
        | inr behind ↦
            let same : j ≡ i = omega arith in
            let these : s ≡ r = same_Some s r (sym at ∙ ap (slice_get rs) same ∙ there) in
            good (subst (bad i) these (subst (λ (k : ℕ). bad k s) same is))
      ];
    }

pub first_begins : (bad : ℕ → Reloc → Type 0) (rs : List Reloc) (i : ℕ) (r : Reloc) → slice_get rs i ≡ Some r → bad i r → IsNoneBelow bad rs i → IsFirstReloc bad rs (i + 1) r
first_begins bad rs i r there such none = record {
  i = i;
  less = omega arith;
  there = there;
  such = such;
  before = λ j s less at is earlier. elim (cases_lt j i) [
    | inl below ↦ none j s below at is
    | inr behind ↦
        let same : j ≡ i = omega arith in
        let these : s ≡ r = same_Some s r (sym at ∙ ap (slice_get rs) same ∙ there) in
        same_never r i (subst (λ (x : Reloc). IsRelocBefore x i r i) these (subst (λ (k : ℕ). IsRelocBefore s k r i) same earlier))
  ];
}

pub first_goes_on : (bad : ℕ → Reloc → Type 0) (rs : List Reloc) (i : ℕ) (r f g : Reloc) → slice_get rs i ≡ Some r → bad i r → IsFirstReloc bad rs i f → IsFirstOfTwo f r g → IsFirstReloc bad rs (i + 1) g
first_goes_on bad rs i r f g there such first (inl (earlier, is)) = subst (IsFirstReloc bad rs (i + 1)) (sym is) (record {
  i = i;
  less = omega arith;
  there = there;
  such = such;
  before = λ j s less at is before. elim (cases_lt j i) [
    | inl below ↦ first.before j s below at is (along s r f j i first.i before earlier)
    | inr behind ↦
        let same : j ≡ i = omega arith in
        let these : s ≡ r = same_Some s r (sym at ∙ ap (slice_get rs) same ∙ there) in
        same_never r i (subst (λ (x : Reloc). IsRelocBefore x i r i) these (subst (λ (k : ℕ). IsRelocBefore s k r i) same before))
  ];
})
first_goes_on bad rs i r f g there such first (inr (unless, is)) =
    let less = first.less in
    subst (IsFirstReloc bad rs (i + 1)) (sym is) (record {
      i = first.i;
      less = omega arith;
      there = first.there;
      such = first.such;
      before = λ j s less at is before. elim (cases_lt j i) [
        | inl below ↦ first.before j s below at is before
        | inr behind ↦
            let same : j ≡ i = omega arith in
            let these : s ≡ r = same_Some s r (sym at ∙ ap (slice_get rs) same ∙ there) in
            let here : IsRelocBefore r i f first.i = subst (λ (x : Reloc). IsRelocBefore x i f first.i) these (subst (λ (k : ℕ). IsRelocBefore s k f first.i) same before) in
            unless (later r f i first.i first.less here)
      ];
    })

-- the loop is over
pub first_of_all : (bad : ℕ → Reloc → Type 0) (rs : List Reloc) (i : ℕ) (first : Option Reloc) → i ≡ length rs → IsFirstBelow bad rs i first → MatchOption first (IsNoneIn bad rs) (IsFirstReloc bad rs (length rs))
first_of_all bad rs i None all none = λ j s at is. let within = slice_get_within rs j s at in none j s (omega arith) at is
first_of_all bad rs i (Some f) all first = subst (λ (k : ℕ). IsFirstReloc bad rs k f) all first

-- ---- what is shown in an object

four : (a b c d e f : ℕ) (xs : List ℕ) → a ∷ xs ≡ b ∷ c ∷ d ∷ e ∷ [] → (a ≡ b) × (xs ≡ c ∷ d ∷ e ∷ [])
four a b c d e f xs is = (cc, cc)

-- a shown relocation of the object is one of its relocations
shown_by : (check : RelocationCheck) (os : List Object) (n : ℕ) (o : Object) → IsObjectAt os n o → (rest : List ℕ) (fault : LiftFault) → ShowsReloc check os (n ∷ rest) fault
    → (i : ℕ) × (r : Reloc) × (rest ≡ r.section ∷ r.offset ∷ i ∷ []) × (slice_get o.relocs i ≡ Some r) × IsShownBy check os n i r
shown_by check os n o object rest fault shown =
    let r : Reloc = shown.reloc in
    let is = four n shown.n shown.reloc.section shown.reloc.offset shown.i 0 rest shown.at in
    let there : slice_get o.relocs shown.i ≡ Some shown.reloc = ap (λ rs. slice_get rs shown.i) (sym object.relocs) ∙ ap (λ m. reloc_at os m shown.i) is.0 ∙ shown.there in
    let judged : IsShownBy check os shown.n shown.i shown.reloc = (shown.judged, (shown.section, shown.in_section, shown.bad)) in
    (shown.i, shown.reloc, is.1, there, subst (λ (m : ℕ). IsShownBy check os m shown.i shown.reloc) (sym is.0) judged)

pub none_shown : (check : RelocationCheck) (os : List Object) (n : ℕ) (o : Object) → slice_get os n ≡ Some o → IsNoneIn (IsShownBy check os n) o.relocs → IsNowhere (within n (ShowsReloc check os))
none_shown check os n o there none rest fault shown =
    let is = shown_by check os n o (object_at os n o there) rest fault shown in
    none is.0 is.1 is.3 is.4

pub first_shown : (check : RelocationCheck) (os : List Object) (n : ℕ) (o : Object) (r : Reloc) (told : LiftFault) → slice_get os n ≡ Some o → IsFirstReloc (IsShownBy check os n) o.relocs (length o.relocs) r
    → ((t : Section) → section_at os n r.section ≡ Some t → IsRelocTold check os n r t told) → IsAnswer (within n (ShowsReloc check os)) told
first_shown check os n o r told there first tells =
    let object = object_at os n o there in
    let t : Section = first.such.1.0 in
    let telling = tells first.such.1.0 first.such.1.1 in
    told_first (within n (ShowsReloc check os)) told telling.0 telling.2 (record {
      place = r.section ∷ r.offset ∷ first.i ∷ [];
      here = record {
        n = n;
        i = first.i;
        reloc = r;
        there = ap (λ rs. slice_get rs first.i) object.relocs ∙ first.there;
        judged = first.such.0;
        section = first.such.1.0;
        in_section = first.such.1.1;
        bad = first.such.1.2;
        at = refl;
        told = telling.1;
      };
      first = λ q other earlier shown.
          let is = shown_by check os n o object q other shown in
          first.before is.0 is.1 (slice_get_within o.relocs is.0 is.1 is.3) is.3 is.4 (subst (λ (p : List ℕ). IsEarlier p (r.section ∷ r.offset ∷ first.i ∷ [])) is.2 earlier);
    })

pub all_shown : (check : RelocationCheck) (os : List Object) (i : ℕ) → length os ≤ i → IsNowhereBelow (ShowsReloc check os) i → IsNowhere (ShowsReloc check os)
all_shown check os i all below = nowhere_past (ShowsReloc check os) (length os) i all begins below
  where
    begins : (place : List ℕ) (fault : LiftFault) → ShowsReloc check os place fault → Begins (length os) place
    begins place fault shown = subst (Begins (length os)) (sym shown.at) (by (slice_get os shown.n) refl)
      where
        by : (o : Option Object) → slice_get os shown.n ≡ o → shown.n < length os
        by None none = absurd (none-some shown.reloc (sym (ap (λ x. slice_get (option_map_or (λ (y : Object). y.relocs) x ([])) shown.i) none) ∙ shown.there))
        by (Some o) there = slice_get_within os shown.n o there

-- what stands behind the end of relocations
abbrev pub zero_reloc : Reloc
zero_reloc = record { section = 0; offset = 0; symbol = 0; kind = 0; addend = pos 0 }
