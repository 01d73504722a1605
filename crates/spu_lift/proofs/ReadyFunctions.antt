-- Where objects have no fault, each word of each function is lifted.
use Rattle.std.proofs.Common.{◌≡◌, ◌≢◌, ℕ, zero, suc, ◌+◌, ◌-◌, ◌*◌, ◌/◌, ◌%◌, ◌^◌, ◌<◌, ◌≤◌, ◌⊎◌, Bool, true, false, not, ◌&&◌, ◌==◌, nat_lt, nat_le, List, [], ◌∷◌, length, map, Option, Some, None, slice_get, ℤ, pos, negsuc, ◌+ℤ◌, refl, sym, ap, subst, ◌∙◌, inl, inr, arith, true≢false}
use Rattle.std.specs.Prelude.{All}
use Rattle.std.specs.Option.{option_and_then, option_map_or}
use Rattle.std.proofs.lemmas.Bool.{and_from, and_parts, cases_Bool, eq-eqb, eqb-true, le-leb, leb-true, lt-ltb, ltb-true}
use Rattle.std.proofs.lemmas.Option.{slice_get_within}
use Rattle.spu_word.specs.declared.limits.TheConstants.{WORD_SIZE}
use Rattle.spu_word.specs.Bytes.{be_number}
use Rattle.spu_word.proofs.Places.{get_some}
use Rattle.spu_isa.specs.declared.operation.Op.TheVariants as op
use Rattle.spu_isa.specs.declared.operation.Kind.{Kind}
use Rattle.spu_isa.specs.declared.instruction.Inst.{Inst}
use Rattle.spu_isa.specs.Table.{Decodes, row_of}
use Rattle.spu_isa.specs.Decoding.{decoded}
use Rattle.spu_isa.proofs.Decoded.{decoded_decodes, decodes_decoded, one_instruction_lem}
use Rattle.spu_elf.specs.declared.objects.SecKind.TheVariants as kinds
use Rattle.spu_elf.specs.declared.objects.Section.{Section}
use Rattle.spu_elf.specs.declared.objects.SymPlace.{SymPlace}
use Rattle.spu_elf.specs.declared.objects.SymPlace.TheVariants as places
use Rattle.spu_elf.specs.declared.objects.Symbol.{Symbol}
use Rattle.spu_elf.specs.declared.objects.Reloc.{Reloc}
use Rattle.spu_elf.specs.declared.objects.Object.{Object}
use Rattle.spu_elf.specs.Validity.{bytes_len}
use Rattle.spu_elf.specs.WellFormed.{IsWellFormed}
use Rattle.spu_reloc.specs.declared.field.RelocKind.TheVariants.{Rel16}
use Rattle.spu_reloc.specs.Fields.{fits_on}
use Rattle.spu_lift.specs.declared.fault.LiftKind.{LiftKind}
use Rattle.spu_lift.specs.declared.fault.LiftKind.TheVariants.{BadTarget, CodeAddend, Misaligned, UndefinedSymbol, UnknownInstruction}
use Rattle.spu_lift.specs.declared.fault.LiftFault.TheVariants as faults
use Rattle.spu_lift.specs.declared.relocations.Spot.{Spot}
use Rattle.spu_lift.specs.declared.functions.FunctionSymbol.{FunctionSymbol}
use Rattle.spu_lift.specs.declared.functions.Place.{Place}
use Rattle.spu_lift.specs.declared.program.Operand.{Operand}
use Rattle.spu_lift.specs.declared.program.Operand.TheVariants as operand
use Rattle.spu_lift.specs.declared.program.SymInst.{SymInst}
use Rattle.spu_lift.specs.declared.tables.Meaning.{Meaning}
use Rattle.spu_lift.specs.declared.tables.Meaning.TheVariants.{Number, Code, Unknown}
use Rattle.spu_lift.specs.StartCode.{of_register, symbolic}
use Rattle.spu_lift.specs.WellFormed.{is_direct}
use Rattle.spu_lift.specs.Tables.{DataPlace, Definition, data_place, definition_of, holds_code, is_code, is_definition, is_undefined, numbered, reloc_at, reloc_on, resolved, section_at, symbol_at, symbols_of, target_of}
use Rattle.spu_lift.specs.Extents.{Extent, IsExtent, IsWordAt, extent_name}
use Rattle.spu_lift.specs.Meanings.{IsOnHint, field_by, field_of, is_hint, is_relative, meaning_by, meaning_inside, meaning_of, meaning_with}
use Rattle.spu_lift.specs.Lifted.{operand_to, with_operand}
use Rattle.spu_lift.specs.LiftFaults.{GoesAstray, IsAbsent, IsAstray, IsUnknown, IsWrong, MayGo, OfReloc, OfWord, TellsSite, TellsSymbol}
use Rattle.spu_lift.specs.LookUps.{IsWordOf, word_at, word_in}
use Rattle.spu_lift.specs.FunctionTables.{AreFunctions, HasPlaces, IsLiftedIn, IsOperandIn, IsPlaceFor, IsPlaceIn, extent_in, is_in}
use Rattle.spu_lift.specs.TakenPlaces.{spot_in}
use Rattle.spu_lift.specs.Built.{AreReady, IsReady}
use Rattle.spu_lift.proofs.DefinitionPlaces.{definition_there}
use Rattle.spu_lift.proofs.OneExtent.{Lies, at_one, extent_even, extent_lies, reloc_formed}
use Rattle.spu_lift.proofs.LiftedCode.{IsRelocOn, reloc_is}
use Rattle.spu_lift.proofs.LiftedWords.{hint_lifted, operand_lifted}
use Rattle.spu_lift.proofs.NumberedFunctions.{word_place}
use Rattle.spu_lift.proofs.ProgramBuilt.{AreFaultless}

-- ---- the place of a function's word, if there is one

search : {X : Type 0} (test : X → Bool) (xs : List X) → ((i : ℕ) × (x : X) × (slice_get xs i ≡ Some x) × (test x ≡ true)) ⊎ ((i : ℕ) (x : X) → slice_get xs i ≡ Some x → test x ≡ false)
search test [] = inr (λ i x at. absurd (cc))
search {X} test (y ∷ xs) = elim (cases_Bool (test y)) [
  | inl is ↦ inl (zero, y, refl, is)
  | inr not ↦ next not (search test xs)
]
  where
    some_one : (a b : X) → Some a ≡ Some b → a ≡ b
    some_one a b e = cc

    all : test y ≡ false → ((i : ℕ) (x : X) → slice_get xs i ≡ Some x → test x ≡ false) → (i : ℕ) (x : X) → slice_get (y ∷ xs) i ≡ Some x → test x ≡ false
    all off rest zero x at = subst (λ (z : X). test z ≡ false) (some_one y x at) off
    all off rest (suc i) x at = rest i x at

    next : test y ≡ false → ((i : ℕ) × (x : X) × (slice_get xs i ≡ Some x) × (test x ≡ true)) ⊎ ((i : ℕ) (x : X) → slice_get xs i ≡ Some x → test x ≡ false)
        → ((i : ℕ) × (x : X) × (slice_get (y ∷ xs) i ≡ Some x) × (test x ≡ true)) ⊎ ((i : ℕ) (x : X) → slice_get (y ∷ xs) i ≡ Some x → test x ≡ false)
    next off (inl (i, x, at, is)) = inl (suc i, x, at, is)
    next off (inr none) = inr (all off none)

abbrev holds_word : ℕ → ℕ → ℕ → FunctionSymbol → Bool
holds_word n k at f = is_in f n k && (nat_le f.offset at && (nat_lt (at - f.offset) f.size && ((at - f.offset) % WORD_SIZE == 0)))

place_found : (fs : List FunctionSymbol) (n k at : ℕ) → ((p : Place) × IsPlaceIn fs (record { object = n; section = k; offset = at }) p) ⊎ ((p : Place) → IsPlaceIn fs (record { object = n; section = k; offset = at }) p → ⊥)
place_found fs n k at = by (search (holds_word n k at) fs)
  where
    by : ((i : ℕ) × (f : FunctionSymbol) × (slice_get fs i ≡ Some f) × (holds_word n k at f ≡ true)) ⊎ ((i : ℕ) (f : FunctionSymbol) → slice_get fs i ≡ Some f → holds_word n k at f ≡ false)
        → ((p : Place) × IsPlaceIn fs (record { object = n; section = k; offset = at }) p) ⊎ ((p : Place) → IsPlaceIn fs (record { object = n; section = k; offset = at }) p → ⊥)
    by (inl (i, f, there, is)) =
        let one = and_parts (is_in f n k) (nat_le f.offset at && (nat_lt (at - f.offset) f.size && ((at - f.offset) % WORD_SIZE == 0))) is in
        let two = and_parts (nat_le f.offset at) (nat_lt (at - f.offset) f.size && ((at - f.offset) % WORD_SIZE == 0)) one.1 in
        let three = and_parts (nat_lt (at - f.offset) f.size) ((at - f.offset) % WORD_SIZE == 0) two.1 in
        let from = leb-true f.offset at two.0 in
        let to = ltb-true (at - f.offset) f.size three.0 in
        let even = eqb-true ((at - f.offset) % WORD_SIZE) 0 three.1 in
        inl (
          record { function = i + 1; word = (at - f.offset) / 4 },
          record {
            from = omega arith;
            f = f;
            there = (let back : (i + 1) - 1 ≡ i = omega arith in ap (slice_get fs) back ∙ there);
            section = one.0;
            at = omega (arith, from, even);
            inside = omega (arith, to, even);
          },
        )
    by (inr none) = inr (λ p is. (
        let place = is.at in
        let inside = is.inside in
        let test : holds_word n k at is.f ≡ true =
        and_from (is_in is.f n k) (nat_le is.f.offset at && (nat_lt (at - is.f.offset) is.f.size && ((at - is.f.offset) % WORD_SIZE == 0))) is.section
        (and_from (nat_le is.f.offset at) (nat_lt (at - is.f.offset) is.f.size && ((at - is.f.offset) % WORD_SIZE == 0)) (le-leb is.f.offset at (omega (arith, place)))
        (and_from (nat_lt (at - is.f.offset) is.f.size) ((at - is.f.offset) % WORD_SIZE == 0) (lt-ltb (at - is.f.offset) is.f.size (omega (arith, place, inside)))
        (eq-eqb ((at - is.f.offset) % WORD_SIZE) 0 (omega (arith, place))))) in
        true≢false (sym test ∙ none (p.function - 1) is.f is.there)))

pos_same : (a b : ℕ) → pos a ≡ pos b → a ≡ b
pos_same a b e = cc

pub place_for : (fs : List FunctionSymbol) (n k : ℕ) (offset : ℤ) → ((p : Place) × IsPlaceFor fs n k offset p) ⊎ ((p : Place) → IsPlaceFor fs n k offset p → ⊥)
place_for fs n k (pos at) = by (place_found fs n k at)
  where
    by : ((p : Place) × IsPlaceIn fs (record { object = n; section = k; offset = at }) p) ⊎ ((p : Place) → IsPlaceIn fs (record { object = n; section = k; offset = at }) p → ⊥)
        → ((p : Place) × IsPlaceFor fs n k (pos at) p) ⊎ ((p : Place) → IsPlaceFor fs n k (pos at) p → ⊥)
    by (inl (p, is)) = inl (p, record { at = at; is = refl; place = is })
    by (inr none) = inr (λ p is. none p (subst (λ m. IsPlaceIn fs (record { object = n; section = k; offset = m }) p) (sym (pos_same at is.at is.is)) is.place))
place_for fs n k (negsuc m) = inr (λ p is. (let bad : negsuc m ≡ pos is.at = is.is in absurd (cc)))

-- ---- what a relocation names

defined_place : (d : Definition) → is_definition d.symbol ≡ true → d.symbol.place ≡ places.Undefined → ⊥
defined_place d is undefined =
    let parts = and_parts d.symbol.global (not (is_undefined d.symbol.place)) is in
    let bad : false ≡ true = sym (ap (λ p. not (is_undefined p)) undefined) ∙ parts.1 in
    absurd (cc)

some_one : {X : Type 0} (x y : X) → Some x ≡ Some y → x ≡ y
some_one x y e = cc

-- a target is defined
target_defined : (os : List Object) (n : ℕ) (r : Reloc) (d : Definition) → target_of os n r ≡ Some d → d.symbol.place ≡ places.Undefined → ⊥
target_defined os n r d is undefined = by (symbol_at os n r.symbol) is
  where
    by : (o : Option Symbol) → option_and_then (resolved os n r.symbol) o ≡ Some d → ⊥
    by None found = absurd (cc)
    by (Some s) found = elim (cases_Bool (is_undefined s.place)) [
      | inl un ↦ defined_place d (definition_there os s.name d (rw un at found)).definition undefined
      | inr its ↦
          let same : numbered n r.symbol s ≡ d = some_one (numbered n r.symbol s) d (rw its at found) in
          let place : s.place ≡ d.symbol.place = ap (λ (x : Definition). x.symbol.place) same in
          let bad : true ≡ false = sym (ap is_undefined (place ∙ undefined)) ∙ its in
          absurd (cc)
    ]

-- what is unknown is the meaning of no target
unknown_target : (os : List Object) (n : ℕ) (r : Reloc) → meaning_of os n r ≡ Unknown → target_of os n r ≡ None
unknown_target os n r is = by (target_of os n r) refl is
  where
    inside : (d : Definition) (k : ℕ) (o : Option DataPlace) → meaning_inside d.object k d.symbol.value r.addend o ≡ Unknown → ⊥
    inside d k None e = absurd (cc)
    inside d k (Some x) e = absurd (cc)

    place : (d : Definition) (p : SymPlace) → d.symbol.place ≡ p → target_of os n r ≡ Some d → meaning_by os d.object d.symbol r.addend p ≡ Unknown → ⊥
    place d places.Undefined at found e = target_defined os n r d found at
    place d places.Absolute at found e = absurd (cc)
    place d (places.Inside k) at found e = inside d k (data_place os d.object d.symbol) e

    by : (o : Option Definition) → target_of os n r ≡ o → meaning_with os r.addend o ≡ Unknown → target_of os n r ≡ None
    by None found e = found
    by (Some d) found e = absurd (place d d.symbol.place refl found e)

-- ---- a word of a function

module _ (os : List Object) (name : List ℕ) (fs : List FunctionSymbol) (h : AreFaultless os name fs) where
  -- a place of code in no function
  away : (x : Extent) (j n k : ℕ) (offset : ℤ) → ((p : Place) → IsPlaceFor fs n k offset p → ⊥) → IsWordAt os x j n k offset → ⊥
  away x j n k offset none word = let at = word_place os fs x j n k offset h.functions word in none (record { function = suc at.0; word = j }) at.4

  module _ (i w : ℕ) (f : FunctionSymbol) (at : slice_get fs i ≡ Some f) (less : w < f.size / WORD_SIZE) where
    extent : IsExtent os (extent_in f)
    extent = let has = h.functions.each i f at in (f.symbol, has.s, has.t, has.is.function)

    lies : Lies os (extent_in f)
    lies = extent_lies os (extent_in f) h.formed extent

    abbrev offset : ℕ
    offset = f.offset + WORD_SIZE * w

    abbrev word : ℕ
    word = be_number lies.section.bytes (f.offset + WORD_SIZE * w)

    inside : WORD_SIZE * w < f.size
    inside = omega (arith, less)

    abbrev place : List ℕ
    place = f.object ∷ f.section ∷ (f.offset + WORD_SIZE * w) ∷ []

    known : (x : Inst) → Decodes word x → IsWordOf os (spot_in f w) x
    known x decodes = record { word = word; at = found; decodes = decodes }
      where
        filled : length lies.section.bytes ≡ lies.section.size
        filled = lies.valid.filled ∙ ap (λ k. bytes_len k lies.section.size) lies.code

        room : nat_le (f.offset + WORD_SIZE * w + 4) (length lies.section.bytes) ≡ true
        room = (let ends = lies.ends in let even = (extent_even os name (extent_in f) (h.faultless Misaligned) extent) in let size = even.size in let long = filled in le-leb (f.offset + WORD_SIZE * w + 4) (length lies.section.bytes) (omega (arith, less, ends, size, long)))

        found : word_at os (spot_in f w) ≡ Some word
        found = ap (option_and_then (word_in (f.offset + WORD_SIZE * w))) lies.there ∙ rw room refl

    shows : (kind : LiftKind) (faulty : Extent → ℕ → ℕ → Type 0) → faulty (extent_in f) offset word → OfWord os kind faulty place (faults.Word kind (extent_name os (extent_in f)) (WORD_SIZE * w))
    shows kind faulty bad = record { x = extent_in f; j = w; extent = extent; inside = inside; section = lies.section; there = lies.there; bad = bad; at = refl; told = refl }

    module _ (x : Inst) (decodes : Decodes word x) (plain : is_hint x.op ≡ false) where
      not_on_hint : (r : Reloc) → r.section ≡ f.section → r.offset ≡ offset → IsOnHint os f.object r → ⊥
      not_on_hint r section_is offset_is (t, y, is, hint) =
          let sections : t ≡ lies.section = at_one (section_at os f.object f.section) t lies.section (ap (λ m. section_at os f.object m) (sym section_is) ∙ is.section) lies.there in
          let word_is : be_number t.bytes r.offset ≡ word = ap (λ (u : Section). be_number u.bytes r.offset) sections ∙ ap (be_number lies.section.bytes) offset_is in
          let same : y ≡ x = one_instruction_lem word y x (subst (λ v. Decodes v y) word_is is.decodes) decodes in
          true≢false (sym hint ∙ ap (λ (z : Inst). is_hint z.op) same ∙ plain)

      -- no relocation on it has an undefined symbol, or stands for a place of code outside functions
      no_reloc : (r : Reloc) → reloc_on os f.object f.section offset ≡ Some r → (meaning_of os f.object r ≡ Unknown) ⊎ IsAstray os (meaning_of os f.object r) → ⊥
      no_reloc r on bad = by bad
        where
          its : IsRelocOn os f.object f.section offset r
          its = reloc_is os f.object f.section offset r on

          within : section_at os f.object r.section ≡ Some lies.section
          within = ap (λ m. section_at os f.object m) its.section ∙ lies.there

          by : (meaning_of os f.object r ≡ Unknown) ⊎ IsAstray os (meaning_of os f.object r) → ⊥
          by (inl unknown) =
              let formed = reloc_formed os f.object its.i r h.formed its.there in
              let s = get_some (symbols_of os f.object) r.symbol formed.known in
              h.faultless UndefinedSymbol (f.object ∷ r.section ∷ r.offset ∷ its.i ∷ []) (faults.Symbol UndefinedSymbol s.0.name) (record {
                n = f.object;
                i = its.i;
                reloc = r;
                there = its.there;
                judged = not_on_hint r its.section its.at;
                section = lies.section;
                in_section = within;
                bad = unknown_target os f.object r unknown;
                at = refl;
                told = (s.0, s.1, refl);
              })
          by (inr astray) = h.faultless CodeAddend (f.object ∷ r.section ∷ r.offset ∷ its.i ∷ []) (faults.Site CodeAddend f.object lies.section.name r.offset) (record {
            n = f.object;
            i = its.i;
            reloc = r;
            there = its.there;
            judged = not_on_hint r its.section its.at;
            section = lies.section;
            in_section = within;
            bad = inr astray;
            at = refl;
            told = refl;
          })

      abbrev field : Option Meaning
      field = field_of os f.object f.section (f.offset + WORD_SIZE * w) x

      never : GoesAstray os (extent_in f) x field → ⊥
      never bad = h.faultless BadTarget place (faults.Word BadTarget (extent_name os (extent_in f)) (WORD_SIZE * w)) (shows BadTarget (IsWrong os (GoesAstray os)) (x, decodes, bad))

      -- where its field comes from
      from_field : (m : Meaning) → field ≡ Some m → ((r : Reloc) × (reloc_on os f.object f.section offset ≡ Some r) × (meaning_of os f.object r ≡ m)) ⊎ (is_direct (row_of x.op).kind ≡ true)
      from_field m is = by (reloc_on os f.object f.section offset) refl is
        where
          by : (o : Option Reloc) → reloc_on os f.object f.section offset ≡ o → field_by os f.object f.section offset x o ≡ Some m → ((r : Reloc) × (reloc_on os f.object f.section offset ≡ Some r) × (meaning_of os f.object r ≡ m)) ⊎ (is_direct (row_of x.op).kind ≡ true)
          by None on found = elim (cases_Bool (is_relative x.op)) [
            | inl relative ↦ inr ((and_parts (is_direct (row_of x.op).kind) (fits_on Rel16 x.op) relative).0)
            | inr other ↦ absurd (let bad : None ≡ Some m = rw other at found in cc)
          ]
          by (Some r) on found = inl (r, on, some_one (meaning_of os f.object r) m found)

      no_unknown : field ≡ Some Unknown → ⊥
      no_unknown is = by (from_field Unknown is)
        where
          by : ((r : Reloc) × (reloc_on os f.object f.section offset ≡ Some r) × (meaning_of os f.object r ≡ Unknown)) ⊎ (is_direct (row_of x.op).kind ≡ true) → ⊥
          by (inl (r, on, unknown)) = no_reloc r on (inl unknown)
          by (inr direct) = never (direct, λ may. subst (MayGo os (row_of x.op).kind (extent_in f)) is may)

      no_stray : (n k : ℕ) (to : ℤ) → field ≡ Some (Code n k to) → ((p : Place) → IsPlaceFor fs n k to p → ⊥) → ⊥
      no_stray n k to is none = by (from_field (Code n k to) is)
        where
          by : ((r : Reloc) × (reloc_on os f.object f.section offset ≡ Some r) × (meaning_of os f.object r ≡ Code n k to)) ⊎ (is_direct (row_of x.op).kind ≡ true) → ⊥
          by (inl (r, on, code)) = no_reloc r on (inr (subst (IsAstray os) (sym code) (λ y j word_is. away y j n k to none word_is)))
          by (inr direct) = never (
            direct,
            λ may. (
                let goes = subst (MayGo os (row_of x.op).kind (extent_in f)) is may in
                away goes.0 goes.1 n k to none goes.2),
          )

      operand_there : (m : Option Meaning) → field ≡ m → (o : Operand) × IsOperandIn fs (i + 1) (row_of x.op).kind m o
      operand_there None is = (operand.Plain, refl)
      operand_there (Some (Number v)) is = (operand.Number v, refl)
      operand_there (Some (Code n k to)) is = by (place_for fs n k to)
        where
          by : ((p : Place) × IsPlaceFor fs n k to p) ⊎ ((p : Place) → IsPlaceFor fs n k to p → ⊥) → (o : Operand) × IsOperandIn fs (i + 1) (row_of x.op).kind (Some (Code n k to)) o
          by (inl (p, there)) = (operand_to (row_of x.op).kind (i + 1) p.function p.word, record { p = p; place = there; is = refl })
          by (inr none) = absurd (no_stray n k to is none)
      operand_there (Some Unknown) is = absurd (no_unknown is)

      plain_lifts : (s : SymInst) × IsLiftedIn os fs (i + 1) (spot_in f w) s
      plain_lifts =
          let o = operand_there field refl in
          (with_operand x o.0, operand_lifted os fs (i + 1) (spot_in f w) x o.0 (with_operand x o.0) (known x decodes) plain o.1 refl)

    lifts : (s : SymInst) × IsLiftedIn os fs (i + 1) (spot_in f w) s
    lifts = by (decoded word) refl
      where
        hint : (x : Inst) → Decodes word x → (s : SymInst) × IsLiftedIn os fs (i + 1) (spot_in f w) s
        hint x decodes = elim (cases_Bool (is_hint x.op)) [
          | inl is ↦ (symbolic (of_register op.Lnop 0 (pos 0)) operand.Plain, hint_lifted os fs (i + 1) (spot_in f w) x (symbolic (of_register op.Lnop 0 (pos 0)) operand.Plain) (known x decodes) is refl)
          | inr plain ↦ plain_lifts x decodes plain
        ]

        by : (o : Option Inst) → decoded word ≡ o → (s : SymInst) × IsLiftedIn os fs (i + 1) (spot_in f w) s
        by None is = absurd (h.faultless UnknownInstruction place (faults.Word UnknownInstruction (extent_name os (extent_in f)) (WORD_SIZE * w))
            (shows UnknownInstruction IsUnknown (λ y d. (let bad : None ≡ Some y = sym is ∙ decodes_decoded word y d in absurd (cc)))))
        by (Some x) is = hint x (decoded_decodes word x is)

  pub functions_ready : HasPlaces fs → AreReady os fs
  functions_ready has i f at = record {
    small = small;
    code = (its.section, its.there, holds);
    lifts = λ w less. lifts i w f at less;
  }
    where
      its : Lies os (extent_in f)
      its = let has_symbol = h.functions.each i f at in extent_lies os (extent_in f) h.formed (f.symbol, has_symbol.s, has_symbol.t, has_symbol.is.function)

      small : f.offset + f.size < 2 ^ 32
      small = let ends = its.ends in let low = its.valid.small in omega (arith, ends, low)

      holds : holds_code its.section ≡ true
      holds =
          let some = its.some in
          let ends = its.ends in
          let size : nat_lt 0 its.section.size ≡ true = lt-ltb 0 its.section.size (omega (arith, some, ends)) in
          rw (ap is_code its.code, size) refl
