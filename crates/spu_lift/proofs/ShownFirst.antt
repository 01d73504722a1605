-- Each fault is shown nowhere, or first at one place.
use Rattle.std.proofs.Common.{◌≡◌, ℕ, suc, ◌+◌, ◌*◌, ◌<◌, ◌≤◌, true, List, [], ◌∷◌, length, Some, pos, refl, sym, ap, subst, inr, arith}
use Rattle.std.specs.Prelude.{All}
use Rattle.std.proofs.lemmas.Option.{slice_get_within}
use Rattle.spu_word.specs.declared.limits.TheConstants.{MAX_SECTION_SIZE, WORD_SIZE}
use Rattle.spu_word.specs.Bytes.{be_number}
use Rattle.spu_word.proofs.Places.{nat_equal}
use Rattle.spu_elf.specs.declared.objects.SecKind.TheVariants as kinds
use Rattle.spu_elf.specs.declared.objects.Section.{Section}
use Rattle.spu_elf.specs.declared.objects.Symbol.{Symbol}
use Rattle.spu_elf.specs.declared.objects.Reloc.{Reloc}
use Rattle.spu_elf.specs.declared.objects.Object.{Object}
use Rattle.spu_elf.specs.WellFormed.{IsWellFormed}
use Rattle.spu_lift.specs.declared.fault.LiftKind.{LiftKind}
use Rattle.spu_lift.specs.declared.fault.LiftFault.{LiftFault}
use Rattle.spu_lift.specs.declared.fault.LiftFault.TheVariants as faults
use Rattle.spu_lift.specs.Tables.{is_definition, reloc_at, relocs_of, section_at, sections_of, symbol_at, symbols_of}
use Rattle.spu_lift.specs.Extents.{Extent, extent_name}
use Rattle.spu_lift.specs.Meanings.{IsOnHint}
use Rattle.spu_lift.specs.LiftFaults.{OfCode, OfReloc, OfSymbol, OfWord}
use Rattle.spu_lift.proofs.ExtentFacts.{extent_fits, object_of_symbol, section_of_object, valid_section}
use Rattle.spu_lift.proofs.OneExtent.{reloc_formed}
use Rattle.spu_lift.proofs.Decisions.{Decided, IsBelow, IsSomeOf, decided_at_most, decided_below, decided_both, decided_by, decided_not, decided_some, decided_true}
use Rattle.spu_lift.proofs.FunctionSearch.{IsWordSuch, decided_code, decided_word, pos_same}
use Rattle.spu_lift.proofs.ConditionDecisions.{decided_on_hint}
use Rattle.spu_lift.proofs.PlaceSearch.{IsBoundedPlace, IsFirstOrNowhere, IsToldAt, first_or_nowhere}

-- ---- symbols

abbrev IsBadSymbolAt : List Object → (ℕ → ℕ → Symbol → Type 0) → ℕ → ℕ → Type 0
IsBadSymbolAt os faulty n j = IsSomeOf (symbol_at os n j) (λ s. (is_definition s ≡ true) × faulty n j s)

two : (n j m i : ℕ) → n ∷ j ∷ [] ≡ m ∷ i ∷ [] → (m ≡ n) × (i ≡ j)
two n j m i e = (cc, cc)

symbol_told : (os : List Object) (kind : LiftKind) (faulty : ℕ → ℕ → Symbol → Type 0) → ((n j : ℕ) (s : Symbol) → symbol_at os n j ≡ Some s → Decided (faulty n j s)) → (place : List ℕ) → Decided (IsToldAt (OfSymbol os kind faulty) place)
symbol_told os kind faulty each [] = inr (λ h. let e = h.1.at in cc)
symbol_told os kind faulty each (n ∷ []) = inr (λ h. let e = h.1.at in cc)
symbol_told os kind faulty each (n ∷ j ∷ k ∷ ks) = inr (λ h. let e = h.1.at in cc)
symbol_told os kind faulty each (n ∷ j ∷ []) =
    decided_by (IsBadSymbolAt os faulty n j) (IsToldAt (OfSymbol os kind faulty) (n ∷ j ∷ []))
    (λ h. (faults.Symbol kind h.0.name, record { n = n; j = j; symbol = h.0; there = h.1; definition = h.2.0; bad = h.2.1; at = refl; told = refl }))
    (λ h.
    let same = two n j h.1.n h.1.j h.1.at in
    subst (λ (m : ℕ). IsBadSymbolAt os faulty m j) same.0 (subst (λ (i : ℕ). IsBadSymbolAt os faulty h.1.n i) same.1 (h.1.symbol, h.1.there, (h.1.definition, h.1.bad))))
    (decided_some (symbol_at os n j) (λ s. (is_definition s ≡ true) × faulty n j s) (λ s at. decided_both (is_definition s ≡ true) (faulty n j s) (decided_true (is_definition s)) (each n j s at)))

abbrev symbol_bound : List Object → List ℕ → ℕ
symbol_bound os [] = length os
symbol_bound os (n ∷ ns) = length (symbols_of os n)

pub symbol_first : (os : List Object) (kind : LiftKind) (faulty : ℕ → ℕ → Symbol → Type 0) → ((n j : ℕ) (s : Symbol) → symbol_at os n j ≡ Some s → Decided (faulty n j s)) → IsFirstOrNowhere (OfSymbol os kind faulty)
symbol_first os kind faulty each = first_or_nowhere 2 (symbol_bound os) (OfSymbol os kind faulty) (symbol_told os kind faulty each) bounded
  where
    bounded : (place : List ℕ) (fault : LiftFault) → OfSymbol os kind faulty place fault → IsBoundedPlace 2 (symbol_bound os) place
    bounded place fault shown = subst (IsBoundedPlace 2 (symbol_bound os)) (sym shown.at)
        ((object_of_symbol os shown.n shown.j shown.symbol shown.there).1.within, (slice_get_within (symbols_of os shown.n) shown.j shown.symbol shown.there, tt))

-- ---- places in sections

abbrev section_bound : List Object → List ℕ → ℕ
section_bound os [] = length os
section_bound os (n ∷ []) = length (sections_of os n)
section_bound os (n ∷ k ∷ []) = MAX_SECTION_SIZE
section_bound os (n ∷ k ∷ offset ∷ is) = length (relocs_of os n)

-- ---- relocations

abbrev IsBadRelocIn : List Object → (ℕ → ℕ → Reloc → Section → Type 0) → ℕ → ℕ → ℕ → ℕ → Reloc → Type 0
IsBadRelocIn os faulty n i k offset r = ((r.section ≡ k) × (r.offset ≡ offset)) × ((IsOnHint os n r → ⊥) × IsSomeOf (section_at os n r.section) (faulty n i r))

abbrev IsBadRelocAt : List Object → (ℕ → ℕ → Reloc → Section → Type 0) → ℕ → ℕ → ℕ → ℕ → Type 0
IsBadRelocAt os faulty k offset n i = IsSomeOf (reloc_at os n i) (IsBadRelocIn os faulty n i k offset)

four : (a b c d e f g h : ℕ) → a ∷ b ∷ c ∷ d ∷ [] ≡ e ∷ f ∷ g ∷ h ∷ [] → (e ≡ a) × (f ≡ b) × (g ≡ c) × (h ≡ d)
four a b c d e f g h is = (cc, cc, cc, cc)

placed : (n i k offset l o : ℕ) → l ≡ k → o ≡ offset → n ∷ k ∷ offset ∷ i ∷ [] ≡ n ∷ l ∷ o ∷ i ∷ []
placed n i k offset l o a b = cc

-- what a relocation that shows the fault tells
abbrev pub Telling : List Object → (ℕ → Reloc → Section → LiftFault → Type 0) → Type 0
Telling os tells = (n i : ℕ) (r : Reloc) (t : Section) → reloc_at os n i ≡ Some r → (fault : LiftFault) × tells n r t fault

reloc_told : (os : List Object) (faulty : ℕ → ℕ → Reloc → Section → Type 0) (tells : ℕ → Reloc → Section → LiftFault → Type 0) → ((n i : ℕ) (r : Reloc) (t : Section) → Decided (faulty n i r t)) → Telling os tells
    → (place : List ℕ) → Decided (IsToldAt (OfReloc os faulty tells) place)
reloc_told os faulty tells each telling [] = inr (λ h. let e = h.1.at in cc)
reloc_told os faulty tells each telling (n ∷ []) = inr (λ h. let e = h.1.at in cc)
reloc_told os faulty tells each telling (n ∷ k ∷ []) = inr (λ h. let e = h.1.at in cc)
reloc_told os faulty tells each telling (n ∷ k ∷ offset ∷ []) = inr (λ h. let e = h.1.at in cc)
reloc_told os faulty tells each telling (n ∷ k ∷ offset ∷ i ∷ m ∷ ms) = inr (λ h. let e = h.1.at in cc)
reloc_told os faulty tells each telling (n ∷ k ∷ offset ∷ i ∷ []) =
    decided_by (IsBadRelocAt os faulty k offset n i) (IsToldAt (OfReloc os faulty tells) (n ∷ k ∷ offset ∷ i ∷ [])) so back
    (decided_some (reloc_at os n i) (IsBadRelocIn os faulty n i k offset) (λ r at.
    decided_both ((r.section ≡ k) × (r.offset ≡ offset)) ((IsOnHint os n r → ⊥) × IsSomeOf (section_at os n r.section) (faulty n i r))
    (decided_both (r.section ≡ k) (r.offset ≡ offset) (nat_equal r.section k) (nat_equal r.offset offset))
    (decided_both (IsOnHint os n r → ⊥) (IsSomeOf (section_at os n r.section) (faulty n i r)) (decided_not (IsOnHint os n r) (decided_on_hint os n r))
    (decided_some (section_at os n r.section) (faulty n i r) (λ t there. each n i r t)))))
  where
    so : IsBadRelocAt os faulty k offset n i → IsToldAt (OfReloc os faulty tells) (n ∷ k ∷ offset ∷ i ∷ [])
    so (r, at, (place, (judged, (t, there, bad)))) =
        let told = telling n i r t at in
        (told.0, record { n = n; i = i; reloc = r; there = at; judged = judged; section = t; in_section = there; bad = bad; at = placed n i k offset r.section r.offset place.0 place.1; told = told.1 })

    back : IsToldAt (OfReloc os faulty tells) (n ∷ k ∷ offset ∷ i ∷ []) → IsBadRelocAt os faulty k offset n i
    back (fault, shown) =
        let same = four n k offset i shown.n shown.reloc.section shown.reloc.offset shown.i shown.at in
        subst (λ (m : ℕ). IsBadRelocAt os faulty k offset m i) same.0 (subst (λ (m : ℕ). IsBadRelocAt os faulty k offset shown.n m) same.3
        (shown.reloc, shown.there, ((same.1, same.2), (shown.judged, (shown.section, shown.in_section, shown.bad)))))

pub reloc_first : (os : List Object) (faulty : ℕ → ℕ → Reloc → Section → Type 0) (tells : ℕ → Reloc → Section → LiftFault → Type 0) → All IsWellFormed os → ((n i : ℕ) (r : Reloc) (t : Section) → Decided (faulty n i r t)) → Telling os tells
    → IsFirstOrNowhere (OfReloc os faulty tells)
reloc_first os faulty tells formed each telling = first_or_nowhere 4 (section_bound os) (OfReloc os faulty tells) (reloc_told os faulty tells each telling) bounded
  where
    bounded : (place : List ℕ) (fault : LiftFault) → OfReloc os faulty tells place fault → IsBoundedPlace 4 (section_bound os) place
    bounded place fault shown =
        let well = reloc_formed os shown.n shown.i shown.reloc formed shown.there in
        let valid = valid_section os shown.n shown.reloc.section well.target.0 formed well.target.1 in
        let inside = well.target.2.inside in
        let small = valid.small in
        let less : shown.reloc.offset < MAX_SECTION_SIZE = omega arith in
        subst (IsBoundedPlace 4 (section_bound os)) (sym shown.at) (
          section_of_object os shown.n shown.reloc.section shown.section shown.in_section,
          (
            slice_get_within (sections_of os shown.n) shown.reloc.section shown.section shown.in_section,
            (less, (slice_get_within (relocs_of os shown.n) shown.i shown.reloc shown.there, tt)),
          ),
        )

-- ---- words of sections of code

abbrev IsBadCodeBy : (ℕ → ℕ → ℕ → ℕ → Type 0) → ℕ → ℕ → ℕ → Section → ℕ → Type 0
IsBadCodeBy faulty n k offset t i = ((offset ≡ WORD_SIZE * i) × (WORD_SIZE * i + WORD_SIZE ≤ t.size)) × faulty n k (WORD_SIZE * i) (be_number t.bytes (WORD_SIZE * i))

abbrev IsBadCodeIn : (ℕ → ℕ → ℕ → ℕ → Type 0) → ℕ → ℕ → ℕ → Section → Type 0
IsBadCodeIn faulty n k offset t = (t.kind ≡ kinds.Code) × IsBelow (suc offset) (IsBadCodeBy faulty n k offset t)

abbrev IsBadCodeAt : List Object → (ℕ → ℕ → ℕ → ℕ → Type 0) → ℕ → ℕ → ℕ → Type 0
IsBadCodeAt os faulty n k offset = IsSomeOf (section_at os n k) (IsBadCodeIn faulty n k offset)

pub three : (a b c e f g : ℕ) → a ∷ b ∷ c ∷ [] ≡ e ∷ f ∷ g ∷ [] → (e ≡ a) × (f ≡ b) × (g ≡ c)
three a b c e f g is = (cc, cc, cc)

code_told : (os : List Object) (kind : LiftKind) (faulty : ℕ → ℕ → ℕ → ℕ → Type 0) → ((n k offset w : ℕ) → Decided (faulty n k offset w)) → (place : List ℕ) → Decided (IsToldAt (OfCode os kind faulty) place)
code_told os kind faulty each [] = inr (λ h. let e = h.1.at in cc)
code_told os kind faulty each (n ∷ []) = inr (λ h. let e = h.1.at in cc)
code_told os kind faulty each (n ∷ k ∷ []) = inr (λ h. let e = h.1.at in cc)
code_told os kind faulty each (n ∷ k ∷ offset ∷ m ∷ ms) = inr (λ h. let e = h.1.at in cc)
code_told os kind faulty each (n ∷ k ∷ offset ∷ []) =
    decided_by (IsBadCodeAt os faulty n k offset) (IsToldAt (OfCode os kind faulty) (n ∷ k ∷ offset ∷ [])) so back
    (decided_some (section_at os n k) (IsBadCodeIn faulty n k offset) (λ t at.
    decided_both (t.kind ≡ kinds.Code) (IsBelow (suc offset) (IsBadCodeBy faulty n k offset t)) (decided_code t.kind)
    (decided_below (IsBadCodeBy faulty n k offset t) (λ i.
    decided_both ((offset ≡ WORD_SIZE * i) × (WORD_SIZE * i + WORD_SIZE ≤ t.size)) (faulty n k (WORD_SIZE * i) (be_number t.bytes (WORD_SIZE * i)))
    (decided_both (offset ≡ WORD_SIZE * i) (WORD_SIZE * i + WORD_SIZE ≤ t.size) (nat_equal offset (WORD_SIZE * i)) (decided_at_most (WORD_SIZE * i + WORD_SIZE) t.size))
    (each n k (WORD_SIZE * i) (be_number t.bytes (WORD_SIZE * i)))) (suc offset))))
  where
    so : IsBadCodeAt os faulty n k offset → IsToldAt (OfCode os kind faulty) (n ∷ k ∷ offset ∷ [])
    so (t, there, (code, (i, less, ((at, inside), bad)))) =
        (faults.Site kind n t.name (WORD_SIZE * i), record { n = n; k = k; i = i; section = t; there = there; code = code; inside = inside; bad = bad; at = ap (λ (m : ℕ). n ∷ k ∷ m ∷ []) at; told = refl })

    back : IsToldAt (OfCode os kind faulty) (n ∷ k ∷ offset ∷ []) → IsBadCodeAt os faulty n k offset
    back (fault, shown) =
        let same = three n k offset shown.n shown.k (WORD_SIZE * shown.i) shown.at in
        let less : shown.i < suc offset = omega (arith, same.2) in
        subst (λ (m : ℕ). IsBadCodeAt os faulty m k offset) same.0 (subst (λ (m : ℕ). IsBadCodeAt os faulty shown.n m offset) same.1
        (shown.section, shown.there, (shown.code, (shown.i, less, ((sym same.2, shown.inside), shown.bad)))))

pub code_first : (os : List Object) (kind : LiftKind) (faulty : ℕ → ℕ → ℕ → ℕ → Type 0) → All IsWellFormed os → ((n k offset w : ℕ) → Decided (faulty n k offset w)) → IsFirstOrNowhere (OfCode os kind faulty)
code_first os kind faulty formed each = first_or_nowhere 3 (section_bound os) (OfCode os kind faulty) (code_told os kind faulty each) bounded
  where
    bounded : (place : List ℕ) (fault : LiftFault) → OfCode os kind faulty place fault → IsBoundedPlace 3 (section_bound os) place
    bounded place fault shown =
        let small = (valid_section os shown.n shown.k shown.section formed shown.there).small in
        let inside = shown.inside in
        let less : WORD_SIZE * shown.i < MAX_SECTION_SIZE = omega arith in
        subst (IsBoundedPlace 3 (section_bound os)) (sym shown.at)
        (section_of_object os shown.n shown.k shown.section shown.there, (slice_get_within (sections_of os shown.n) shown.k shown.section shown.there, (less, tt)))

-- ---- words of functions

abbrev IsBadWordOf : List Object → (Extent → ℕ → ℕ → Type 0) → Extent → ℕ → Type 0
IsBadWordOf os faulty x j = IsSomeOf (section_at os x.object x.section) (λ t. faulty x (x.offset + WORD_SIZE * j) (be_number t.bytes (x.offset + WORD_SIZE * j)))

three_same : (a b c e f g : ℕ) → e ≡ a → f ≡ b → c ≡ g → a ∷ b ∷ c ∷ [] ≡ e ∷ f ∷ g ∷ []
three_same a b c e f g one two three = cc

word_told : (os : List Object) (kind : LiftKind) (faulty : Extent → ℕ → ℕ → Type 0) → ((x : Extent) (offset w : ℕ) → Decided (faulty x offset w)) → (place : List ℕ) → Decided (IsToldAt (OfWord os kind faulty) place)
word_told os kind faulty each [] = inr (λ h. let e = h.1.at in cc)
word_told os kind faulty each (n ∷ []) = inr (λ h. let e = h.1.at in cc)
word_told os kind faulty each (n ∷ k ∷ []) = inr (λ h. let e = h.1.at in cc)
word_told os kind faulty each (n ∷ k ∷ offset ∷ m ∷ ms) = inr (λ h. let e = h.1.at in cc)
word_told os kind faulty each (n ∷ k ∷ offset ∷ []) =
    decided_by (IsWordSuch os (IsBadWordOf os faulty) n k (pos offset)) (IsToldAt (OfWord os kind faulty) (n ∷ k ∷ offset ∷ [])) so back
    (decided_word os (IsBadWordOf os faulty) (λ x j.
    decided_some (section_at os x.object x.section) (λ t. faulty x (x.offset + WORD_SIZE * j) (be_number t.bytes (x.offset + WORD_SIZE * j)))
    (λ t at. each x (x.offset + WORD_SIZE * j) (be_number t.bytes (x.offset + WORD_SIZE * j)))) n k (pos offset))
  where
    so : IsWordSuch os (IsBadWordOf os faulty) n k (pos offset) → IsToldAt (OfWord os kind faulty) (n ∷ k ∷ offset ∷ [])
    so h = (
      faults.Word kind (extent_name os h.x) (WORD_SIZE * h.j),
      record {
        x = h.x;
        j = h.j;
        extent = h.word.extent;
        inside = h.word.inside;
        section = h.holds.0;
        there = h.holds.1;
        bad = h.holds.2;
        at = three_same n k offset h.x.object h.x.section (h.x.offset + WORD_SIZE * h.j) h.word.object h.word.section (pos_same offset (h.x.offset + WORD_SIZE * h.j) h.word.at);
        told = refl;
      },
    )

    back : IsToldAt (OfWord os kind faulty) (n ∷ k ∷ offset ∷ []) → IsWordSuch os (IsBadWordOf os faulty) n k (pos offset)
    back (fault, shown) =
        let same = three n k offset shown.x.object shown.x.section (shown.x.offset + WORD_SIZE * shown.j) shown.at in
        record {
          x = shown.x;
          j = shown.j;
          word = record { extent = shown.extent; object = same.0; section = same.1; inside = shown.inside; at = ap pos (sym same.2) };
          holds = (shown.section, shown.there, shown.bad);
        }

pub word_first : (os : List Object) (kind : LiftKind) (faulty : Extent → ℕ → ℕ → Type 0) → All IsWellFormed os → ((x : Extent) (offset w : ℕ) → Decided (faulty x offset w)) → IsFirstOrNowhere (OfWord os kind faulty)
word_first os kind faulty formed each = first_or_nowhere 3 (section_bound os) (OfWord os kind faulty) (word_told os kind faulty each) bounded
  where
    bounded : (place : List ℕ) (fault : LiftFault) → OfWord os kind faulty place fault → IsBoundedPlace 3 (section_bound os) place
    bounded place fault shown =
        let fits = extent_fits os formed shown.x shown.extent.0 shown.extent.1 shown.extent.2 shown.extent.3 in
        let ends = fits.ends in
        let small = fits.small in
        let inside = shown.inside in
        let less : shown.x.offset + WORD_SIZE * shown.j < MAX_SECTION_SIZE = omega arith in
        subst (IsBoundedPlace 3 (section_bound os)) (sym shown.at)
        (section_of_object os shown.x.object shown.x.section shown.section shown.there, (slice_get_within (sections_of os shown.x.object) shown.x.section shown.section shown.there, (less, tt)))
