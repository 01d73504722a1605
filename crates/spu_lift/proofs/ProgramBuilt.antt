-- What is built of objects without a fault is their program.
use Rattle.std.proofs.Common.{◌≡◌, ◌≢◌, ℕ, zero, suc, ◌+◌, ◌-◌, ◌*◌, ◌/◌, ◌%◌, ◌<◌, ◌≤◌, ◌⊎◌, ◌↔◌, Bool, true, false, not, ◌==◌, List, [], length, take, drop, map, Option, Some, None, slice_get, pos, refl, sym, ap, subst, ◌∙◌, inl, inr, arith, append-nil}
use Rattle.std.specs.Prelude.{All, filter}
use Rattle.std.specs.List.{Contains}
use Rattle.std.specs.Option.{option_map_or}
use Rattle.std.proofs.lemmas.Bool.{and_from, cases_lt, eq-eqb, not-true}
use Rattle.std.proofs.lemmas.List.{length-map, take_all}
use Rattle.std.proofs.lemmas.Option.{slice_get_within}
use Rattle.spu_word.specs.declared.limits.TheConstants.{WORD_SIZE}
use Rattle.spu_word.proofs.Places.{get_some, nat_equal}
use Rattle.spu_elf.specs.declared.objects.SecKind.{SecKind}
use Rattle.spu_elf.specs.declared.objects.SecKind.TheVariants as kinds
use Rattle.spu_elf.specs.declared.objects.Section.{Section}
use Rattle.spu_elf.specs.declared.objects.Reloc.{Reloc}
use Rattle.spu_elf.specs.declared.objects.Object.{Object}
use Rattle.spu_elf.specs.Validity.{bytes_len}
use Rattle.spu_elf.specs.WellFormed.{IsWellFormed}
use Rattle.spu_lift.specs.declared.fault.LiftKind.{LiftKind}
use Rattle.spu_lift.specs.declared.fault.LiftKind.TheVariants.{BadRelocation, FunctionOverlap, Misaligned}
use Rattle.spu_lift.specs.declared.relocations.Spot.{Spot}
use Rattle.spu_lift.specs.declared.functions.FunctionSymbol.{FunctionSymbol}
use Rattle.spu_lift.specs.declared.functions.Place.{Place}
use Rattle.spu_lift.specs.declared.program.Label.{Label}
use Rattle.spu_lift.specs.declared.program.Label.TheVariants as labels
use Rattle.spu_lift.specs.declared.program.Operand.TheVariants as operand
use Rattle.spu_lift.specs.declared.program.SymInst.{SymInst}
use Rattle.spu_lift.specs.declared.program.Function.{Function}
use Rattle.spu_lift.specs.declared.program.WordLabel.{WordLabel}
use Rattle.spu_lift.specs.declared.program.Part.{Part}
use Rattle.spu_lift.specs.declared.program.Prog.{Prog}
use Rattle.spu_lift.specs.StartCode.{start_code}
use Rattle.spu_lift.specs.Places.{instruction_at, place_in}
use Rattle.spu_lift.specs.WellFormed.{IsRising}
use Rattle.spu_lift.specs.Tables.{all_sections, data_address, data_end_of, holds_code, holds_data, is_code, reloc_at, reloc_on, section_at}
use Rattle.spu_lift.specs.Extents.{Extent, IsNumbering, extent_of, label_of}
use Rattle.spu_lift.specs.Meanings.{is_hint, meaning_of}
use Rattle.spu_lift.specs.Lifted.{AreTaken, HasPart, IsFunctionOf, IsLabelOf, IsLiftedWord, IsPartOf, IsProgramOf, IsWordLabel, Stands, StandsInCode, StandsInData, ear_of, global_of, of_symbols, word_of_data}
use Rattle.spu_lift.specs.LiftFaults.{IsAbsent}
use Rattle.spu_lift.specs.Checks.{IsEntryAt}
use Rattle.spu_lift.specs.FunctionTables.{AreFunctions, IsLiftedIn, IsPlaceIn, extent_in}
use Rattle.spu_lift.specs.TakenPlaces.{IsTakenPlace, LabelsPlace, place_of, spot_in}
use Rattle.spu_lift.specs.Built.{AreFunctionsBuilt, ArePartsBuilt, AreWordsFilled, HasPartBuilt, IsFunctionBuilt, IsPartBuilt, IsWordOfLabel, code_section, word_spot}
use Rattle.spu_lift.proofs.Rising.{at_contains, contains_at, none_contained}
use Rattle.spu_lift.proofs.SectionNumbers.{count_of, number_by, numbered_at}
use Rattle.spu_lift.proofs.OneExtent.{AreApart, AreEven, Lies, at_one, extent_even, extent_lies, object_there, reloc_formed, section_valid}
use Rattle.spu_lift.proofs.OneProgram.{AreFixed, function_there, one_label, one_lifted, one_place}
use Rattle.spu_lift.proofs.LiftedCode.{IsLabelPlace, label_in, lifted_in, not_bad, reloc_is, start_names}
use Rattle.spu_lift.proofs.NumberedFunctions.{are_numbered, number_of, numbered_extent, place_at}
use Rattle.spu_lift.proofs.LiftedIs.{is_label, is_lifted_word, label_is}

-- what is known once objects have no fault
pub record AreFaultless (os : List Object) (name : List ℕ) (fs : List FunctionSymbol) : Type 0 where
  pub formed : All IsWellFormed os
  pub faultless : (kind : LiftKind) → IsAbsent kind os name
  pub functions : AreFunctions os fs

word_place : (g j f i : ℕ) → label_of g j ≡ labels.Place f i → (g ≡ f) × (j ≡ i) × (1 ≤ i)
word_place g zero f i e = absurd (cc)
word_place g (suc j) f i e =
    let one : g ≡ f = cc in
    let two : suc j ≡ i = cc in
    (one, two, omega (arith, two))

place_of_label : (g j : ℕ) → place_of (label_of g j) ≡ Some (record { function = g; word = j })
place_of_label g zero = refl
place_of_label g (suc j) = refl

labels_same : (f w g j : ℕ) → label_of f w ≡ label_of g j → (f ≡ g) × (w ≡ j)
labels_same f zero g zero e = (cc, refl)
labels_same f zero g (suc j) e = absurd (cc)
labels_same f (suc w) g zero e = absurd (cc)
labels_same f (suc w) g (suc j) e = (cc, (let same : suc w ≡ suc j = cc in same))

module _ (os : List Object) (name : List ℕ) (fs : List FunctionSymbol) (h : AreFaultless os name fs) where
  abbrev xs : List Extent
  xs = map extent_in fs

  numbering : IsNumbering os (map extent_in fs)
  numbering = are_numbered os name fs h.formed h.functions (h.faultless Misaligned) (h.faultless FunctionOverlap)

  apart : AreApart os name
  apart = record { formed = h.formed; aligned = h.faultless Misaligned; overlaps = h.faultless FunctionOverlap }

  fixed : AreFixed os name (map extent_in fs)
  fixed = record { apart = apart; numbering = numbering }

  -- the extent of a function, and the section that it lies in
  record IsThere (i : ℕ) (f : FunctionSymbol) : Type 0 where
    pub at : slice_get fs i ≡ Some f
    pub lies : Lies os (extent_in f)
    pub even : AreEven (extent_in f)

  there_is : (i : ℕ) (f : FunctionSymbol) → slice_get fs i ≡ Some f → IsThere i f
  there_is i f at =
      let has = h.functions.each i f at in
      record {
        at = at;
        lies = extent_lies os (extent_in f) h.formed (f.symbol, has.s, has.t, has.is.function);
        even = extent_even os name (extent_in f) (h.faultless Misaligned) (f.symbol, has.s, has.t, has.is.function);
      }

  word_lifted : (i : ℕ) (f : FunctionSymbol) (w : ℕ) (s : SymInst) → slice_get fs i ≡ Some f → IsLiftedIn os fs (i + 1) (spot_in f w) s → IsLiftedWord os (map extent_in fs) (i + 1) f.object f.section (f.offset + WORD_SIZE * w) s
  word_lifted i f w s at lifted =
      let t = there_is i f at in
      let even = t.even.offset in
      is_lifted_word os fs (i + 1) (spot_in f w) t.lies.section s h.functions t.lies.there t.lies.code (omega (arith, even)) lifted

  -- ---- functions

  pub function_of : (is_taken : Place → Bool) (i : ℕ) (f : FunctionSymbol) (g : Function) → slice_get fs i ≡ Some f → IsFunctionBuilt os fs is_taken (i + 1) f g → IsFunctionOf os (map extent_in fs) (i + 1) (extent_in f) g
  function_of is_taken i f g at built =
      let named = h.functions.named i f at in
      let even = (there_is i f at).even.size in
      let count = built.code.count in
      record {
        name = built.name ∙ named.name;
        global = built.global ∙ named.global;
        section = built.section;
        offset = built.offset;
        size = omega (arith, even, count);
        words = λ w s here. word_lifted i f w s at (built.code.each w s here);
      }

  module _ (p : Prog) (is_taken : Place → Bool) (functions : AreFunctionsBuilt os fs is_taken p.data_end p.entry (length fs) p.functions) where
    pub all_functions : (f : ℕ) (x : Extent) (g : Function) → extent_of (map extent_in fs) f ≡ Some x → slice_get p.functions f ≡ Some g → IsFunctionOf os (map extent_in fs) f x g
    all_functions zero x g at there = absurd (cc)
    all_functions (suc i) x g at there =
        let f = numbered_extent fs i x at in
        let next : suc i ≡ i + 1 = omega arith in
        let built = functions.each i f.0 g (slice_get_within fs i f.0 f.1) f.1 (ap (slice_get p.functions) (sym next) ∙ there) in
        subst (λ m. IsFunctionOf os (map extent_in fs) m x g) (sym next) (subst (λ (y : Extent). IsFunctionOf os (map extent_in fs) (i + 1) y g) f.2 (function_of is_taken i f.0 g f.1 built))

    -- word w of function i
    record HasWord (i w : ℕ) (f : FunctionSymbol) : Type 0 where
      pub s : SymInst
      pub there : instruction_at p (i + 1) w ≡ Some s
      pub lifted : IsLiftedIn os fs (i + 1) (spot_in f w) s

    word_of : (i w : ℕ) (f : FunctionSymbol) → slice_get fs i ≡ Some f → w < f.size / WORD_SIZE → HasWord i w f
    word_of i w f at inside =
        let count = functions.count in
        let within = slice_get_within fs i f at in
        let g = get_some p.functions (i + 1) (omega (arith, count, within)) in
        let built = functions.each i f g.0 within at g.1 in
        let long = built.code.count in
        let s = get_some g.0.code w (omega (arith, long, inside)) in
        record { s = s.0; there = ap (λ o. place_in o w) g.1 ∙ s.1; lifted = built.code.each w s.0 s.1 }

    -- a function of the program that isn't the start code
    record HasFunction (f : ℕ) (g : Function) : Type 0 where
      pub i : ℕ
      pub number : f ≡ i + 1
      pub symbol : FunctionSymbol
      pub at : slice_get fs i ≡ Some symbol
      pub built : IsFunctionBuilt os fs is_taken (i + 1) symbol g

    function_by : (f : ℕ) (g : Function) → slice_get p.functions f ≡ Some g → (g ≡ start_code p.data_end p.entry) × (f ≡ 0) ⊎ HasFunction f g
    function_by zero g at = inl (at_one (slice_get p.functions 0) g (start_code p.data_end p.entry) at functions.start, refl)
    function_by (suc i) g at =
        let count = functions.count in
        let within = slice_get_within p.functions (suc i) g at in
        let f = get_some fs i (omega (arith, count, within)) in
        let next : suc i ≡ i + 1 = omega arith in
        inr (record { i = i; number = next; symbol = f.0; at = f.1; built = functions.each i f.0 g (slice_get_within fs i f.0 f.1) f.1 (ap (slice_get p.functions) (sym next) ∙ at) })

    -- ---- data

    module _ (parts : ArePartsBuilt os fs (length os) 0 p.parts) where
      pub part_count : length p.parts ≡ length (filter holds_data (all_sections os))
      part_count = parts.count ∙ ap (count_of holds_data) (append-nil (all_sections (take (length os) os)) ∙ ap all_sections (take_all (length os) os (omega arith)))

      part_at : (n k : ℕ) (t : Section) → section_at os n k ≡ Some t → holds_data t ≡ true → HasPartBuilt os fs p.parts n k t
      part_at n k t at holds = let o = object_there os n k t (λ q. q.sections) (slice_get os n) refl at in parts.each n k t (inl (slice_get_within os n o.0 o.1)) at holds

      -- a relocation in a section of data
      record IsRelocIn (n k offset : ℕ) (t : Section) (r : Reloc) : Type 0 where
        pub aligned : offset % WORD_SIZE ≡ 0
        pub inside : offset + WORD_SIZE ≤ length t.bytes

      size_of : (t : Section) → t.kind ≢ kinds.Zero → length t.bytes ≡ bytes_len t.kind t.size → length t.bytes ≡ t.size
      size_of t filled long = by t.kind refl
        where
          by : (k : SecKind) → t.kind ≡ k → length t.bytes ≡ t.size
          by kinds.Code is = long ∙ ap (λ x. bytes_len x t.size) is
          by kinds.Const is = long ∙ ap (λ x. bytes_len x t.size) is
          by kinds.Vars is = long ∙ ap (λ x. bytes_len x t.size) is
          by kinds.Zero is = absurd (filled is)

      reloc_in : (n k offset : ℕ) (t : Section) (r : Reloc) → section_at os n k ≡ Some t → holds_data t ≡ true → reloc_on os n k offset ≡ Some r → IsRelocIn n k offset t r
      reloc_in n k offset t r at holds on =
          let its = reloc_is os n k offset r on in
          let formed = reloc_formed os n its.i r h.formed its.there in
          let within : section_at os n r.section ≡ Some t = ap (λ m. section_at os n m) its.section ∙ at in
          let same : formed.target.0 ≡ t = at_one (section_at os n r.section) formed.target.0 t formed.target.1 within in
          let filled : t.kind ≢ kinds.Zero = subst (λ (u : Section). u.kind ≢ kinds.Zero) same formed.target.2.filled in
          let inside : r.offset + WORD_SIZE ≤ t.size = subst (λ (u : Section). r.offset + WORD_SIZE ≤ u.size) same formed.target.2.inside in
          let place = its.at in
          let size = size_of t filled (section_valid os n k t h.formed at).filled in
          let even : r.offset % WORD_SIZE ≡ 0 = aligned r its.i its.there within in
          record { aligned = ap (λ m. m % WORD_SIZE) (sym its.at) ∙ even; inside = omega (arith, place, inside, size) }
        where
          no_code : (u : Section) → u ≡ t → u.kind ≡ kinds.Code → ⊥
          no_code u e code = let one : holds_data u ≡ true = subst (λ (x : Section). holds_data x ≡ true) (sym e) holds in let bad : false ≡ true = sym (ap (λ x. not (is_code x)) code) ∙ one in absurd (cc)

          aligned : (x : Reloc) (i : ℕ) → reloc_at os n i ≡ Some x → section_at os n x.section ≡ Some t → x.offset % WORD_SIZE ≡ 0
          aligned x i there within = elim (nat_equal (x.offset % WORD_SIZE) 0) [
            | inl e ↦ e
            | inr ne ↦ absurd (not_bad os name n i x t (h.faultless BadRelocation) there (λ (u, y, is, hint). no_code u (at_one (section_at os n x.section) u t is.section within) is.code) within (inl ne))
          ]

      -- a word that no relocation fills isn't cut off
      whole_words : (n k : ℕ) (t : Section) (bytes : List ℕ) → section_at os n k ≡ Some t → holds_data t ≡ true → AreWordsFilled os n k t.bytes (length t.bytes / WORD_SIZE) bytes
          → (i : ℕ) → WORD_SIZE * i < length t.bytes → take WORD_SIZE (drop (WORD_SIZE * i) bytes) ≡ word_of_data os n t.bytes (WORD_SIZE * i) (reloc_on os n k (WORD_SIZE * i))
      whole_words n k t bytes at holds filled i inside = elim (cases_lt i (length t.bytes / WORD_SIZE)) [
        | inl low ↦ filled.done i low
        | inr high ↦ last (reloc_on os n k (WORD_SIZE * i)) refl (omega (arith, inside, high))
      ]
        where
          last : (o : Option Reloc) → reloc_on os n k (WORD_SIZE * i) ≡ o → i ≡ length t.bytes / WORD_SIZE → take WORD_SIZE (drop (WORD_SIZE * i) bytes) ≡ word_of_data os n t.bytes (WORD_SIZE * i) (reloc_on os n k (WORD_SIZE * i))
          last None on e = ap (λ m. take WORD_SIZE (drop (WORD_SIZE * m) bytes)) e ∙ ap (take WORD_SIZE) filled.rest ∙ ap (λ m. take WORD_SIZE (drop (WORD_SIZE * m) t.bytes)) (sym e) ∙ ap (word_of_data os n t.bytes (WORD_SIZE * i)) (sym on)
          last (Some r) on e = let its = (reloc_in n k (WORD_SIZE * i) t r at holds on).inside in absurd (omega (arith, its, e))

      label_word : (n k words : ℕ) (l : WordLabel) → IsWordOfLabel os fs n k words l → IsWordLabel os (map extent_in fs) n k l
      label_word n k words l is =
          let label : l.label ≡ label_of is.p.function is.p.word = ap (λ (x : WordLabel). x.label) is.is in
          let offset : l.offset ≡ WORD_SIZE * is.w = ap (λ (x : WordLabel). x.offset) is.is in (
            is.labels.r,
            ap (reloc_on os n k) offset ∙ is.labels.reloc,
            subst (λ (m : Label). IsLabelOf os (map extent_in fs) (meaning_of os n is.labels.r) m) (sym label) (is_label os fs (meaning_of os n is.labels.r) is.p h.functions is.labels.place),
          )

      pub part_of : (n k : ℕ) (t : Section) (part : Part) → section_at os n k ≡ Some t → holds_data t ≡ true → IsPartBuilt os fs n k t (data_address os n k t) part → IsPartOf os (map extent_in fs) n k t part
      part_of n k t part at holds built = record {
        address = built.address;
        size = built.size;
        count = built.words.count;
        bytes = whole_words n k t part.bytes at holds built.words;
        rising = built.labels.rising;
        labels = λ l c. label_word n k (length t.bytes / WORD_SIZE) l (built.labels.each l c);
        all = all_labels;
      }
        where
          all_labels : (l : WordLabel) → IsWordLabel os (map extent_in fs) n k l → Contains part.labels l
          all_labels l (r, on, label) =
              let its = reloc_in n k l.offset t r at holds on in
              let aligned = its.aligned in
              let inside = its.inside in
              let w : ℕ = l.offset / 4 in
              let offset : l.offset ≡ WORD_SIZE * (l.offset / 4) = omega (arith, aligned) in
              let q = label_is os fs (meaning_of os n r) l.label label in
              let found = built.labels.all (l.offset / 4) (omega (arith, inside, offset)) q.0 (record { r = r; reloc = ap (reloc_on os n k) (sym offset) ∙ on; place = q.1 }) in
              let other = label_word n k (length t.bytes / WORD_SIZE) found.0 (built.labels.each found.0 found.1) in
              let offsets : found.0.offset ≡ l.offset = found.2 ∙ sym offset in
              let relocs : other.0 ≡ r = at_one (reloc_on os n k l.offset) other.0 r (ap (reloc_on os n k) (sym offsets) ∙ other.1) on in
              let labels : found.0.label ≡ l.label = one_label os name (map extent_in fs) (meaning_of os n r) found.0.label l.label fixed
              (subst (λ (x : Reloc). IsLabelOf os (map extent_in fs) (meaning_of os n x) found.0.label) relocs other.2) label in
              subst (Contains part.labels) (label_same found.0 l offsets labels) found.1
            where
              label_same : (a b : WordLabel) → a.offset ≡ b.offset → a.label ≡ b.label → a ≡ b
              label_same a b x y = ap (λ m. of_fields m a.label) x ∙ ap (of_fields b.offset) y
                where
                  of_fields : ℕ → Label → WordLabel
                  of_fields offset label = record { offset = offset; label = label }

      pub has_part : (n k : ℕ) (t : Section) → section_at os n k ≡ Some t → holds_data t ≡ true → HasPart os (map extent_in fs) p.parts n k t
      has_part n k t at holds =
          let has = part_at n k t at holds in
          record { part = has.part; there = has.there; is = part_of n k t has.part at holds has.is }

      -- ---- what is taken

      -- a taken place stands in the program
      pub stands_so : (q : Place) → IsTakenPlace os fs q → Stands p (label_of q.function q.word)
      stands_so q (inl (i, less, by)) =
          let w = by.named.0 in
          let names = by.named.2 in
          let has = word_of i by.named.0 by.f by.there by.named.1 in
          let same : names.x ≡ has.s = one_lifted os name (map extent_in fs) (i + 1) by.f.object by.f.section (by.f.offset + WORD_SIZE * by.named.0) names.x has.s fixed
          (word_lifted i by.f by.named.0 names.x by.there names.lifted) (word_lifted i by.f by.named.0 has.s by.there has.lifted) in
          inr (record { f = i + 1; i = by.named.0; x = has.s; there = has.there; is = ap (λ (s : SymInst). s.operand) (sym same) ∙ names.names })
      stands_so q (inr (n, less, by)) =
          let k = by.labeled.0 in
          let its = by.labeled.2 in
          let at : section_at os n by.labeled.0 ≡ Some its.t = ap (λ o. slice_get (option_map_or (λ (x : Object). x.sections) o ([])) by.labeled.0) by.there ∙ its.there in
          let holds : holds_data its.t ≡ true = ap not its.holds_data in
          let has = part_at n by.labeled.0 its.t at holds in
          let found = has.is.labels.all its.labeled.0 its.labeled.1 q its.labeled.2 in
          let word = label_word n by.labeled.0 (length its.t.bytes / WORD_SIZE) found.0 (has.is.labels.each found.0 found.1) in
          let label : found.0.label ≡ label_of q.function q.word = one_of n by.labeled.0 its.labeled.0 found.0 word found.2 q its.labeled.2 in
          inl (record { part = has.part; there = at_contains p.parts (number_by holds_data os n by.labeled.0) has.part has.there; word = found.0; inside = found.1; is = label })
        where
          one_of : (n k w : ℕ) (l : WordLabel) → IsWordLabel os (map extent_in fs) n k l → l.offset ≡ WORD_SIZE * w → (r : Place) → LabelsPlace os fs (word_spot n k w) r → l.label ≡ label_of r.function r.word
          one_of n k w l (x, on, label) offset r place =
              let relocs : x ≡ place.r = at_one (reloc_on os n k l.offset) x place.r on (ap (reloc_on os n k) offset ∙ place.reloc) in
              one_label os name (map extent_in fs) (meaning_of os n place.r) l.label (label_of r.function r.word) fixed
              (subst (λ (y : Reloc). IsLabelOf os (map extent_in fs) (meaning_of os n y) l.label) relocs label) (is_label os fs (meaning_of os n place.r) r h.functions place.place)

      -- a label that stands in the program is that of a taken place
      named_by : (l : Label) (q : Place) → place_of l ≡ Some q → (g j : ℕ) → l ≡ label_of g j → q ≡ record { function = g; word = j }
      named_by l q named g j is = some_one q (record { function = g; word = j }) (sym named ∙ ap place_of is ∙ place_of_label g j)
        where
          some_one : (a b : Place) → Some a ≡ Some b → a ≡ b
          some_one a b e = cc

      code_label : (l : Label) (q : Place) → place_of l ≡ Some q → (c : StandsInCode p l) → IsTakenPlace os fs q × (l ≡ label_of q.function q.word)
      code_label l q named c = by (function_by c.f (function_there p c.f c.i c.x c.there).0 (function_there p c.f c.i c.x c.there).1)
        where
          g : (x : Function) × (slice_get p.functions c.f ≡ Some x) × (slice_get x.code c.i ≡ Some c.x)
          g = function_there p c.f c.i c.x c.there

          by : ((function_there p c.f c.i c.x c.there).0 ≡ start_code p.data_end p.entry) × (c.f ≡ 0) ⊎ HasFunction c.f (function_there p c.f c.i c.x c.there).0 → IsTakenPlace os fs q × (l ≡ label_of q.function q.word)
          by (inl start) = absurd (start_names p.data_end p.entry c.i c.x l (ap (λ (x : Function). slice_get x.code c.i) (sym start.0) ∙ (function_there p c.f c.i c.x c.there).2) c.is)
          by (inr f) =
              let lifted = f.built.code.each c.i c.x (function_there p c.f c.i c.x c.there).2 in
              let within = slice_get_within (function_there p c.f c.i c.x c.there).0.code c.i c.x (function_there p c.f c.i c.x c.there).2 in
              let count = f.built.code.count in
              let word = word_lifted f.i f.symbol c.i c.x f.at lifted in
              let place = lifted_in os (map extent_in fs) (is_hint word.x.op) (f.i + 1) f.symbol.object f.symbol.section (f.symbol.offset + WORD_SIZE * c.i) word.x c.x l word.lifted c.is in
              let same : q ≡ record { function = place.g; word = place.j } = named_by l q named place.g place.j place.is in
              let is : l ≡ label_of q.function q.word = place.is ∙ ap (λ (r : Place). label_of r.function r.word) (sym same) in (
                inl (
                  f.i,
                  slice_get_within fs f.i f.symbol f.at,
                  record {
                    f = f.symbol;
                    there = f.at;
                    named = (c.i, omega (arith, within, count), record { x = c.x; lifted = lifted; names = c.is ∙ ap operand.Address is });
                  },
                ),
                is,
              )

      data_label : (l : Label) (q : Place) → place_of l ≡ Some q → (d : StandsInData p l) → IsTakenPlace os fs q × (l ≡ label_of q.function q.word)
      data_label l q named d =
          let at = contains_at p.parts d.part d.there in
          let within = slice_get_within p.parts at.0 d.part at.1 in
          let count = part_count in
          let t = get_some (filter holds_data (all_sections os)) at.0 (omega (arith, within, count)) in
          let number = numbered_at holds_data os at.0 t.0 t.1 in
          let has = part_at number.n number.k t.0 number.there number.passes in
          let same : has.part ≡ d.part = at_one (slice_get p.parts at.0) has.part d.part (ap (slice_get p.parts) (sym number.number) ∙ has.there) at.1 in
          let word = has.is.labels.each d.word (subst (λ (x : Part). Contains x.labels d.word) (sym same) d.inside) in
          let label : l ≡ label_of word.p.function word.p.word = sym d.is ∙ ap (λ (x : WordLabel). x.label) word.is in
          let place : q ≡ word.p = named_by l q named word.p.function word.p.word label in
          let o = object_there os number.n number.k t.0 (λ x. x.sections) (slice_get os number.n) refl number.there in
          let not_code : is_code t.0.kind ≡ false = not-true (is_code t.0.kind) number.passes in (
            inr (
              number.n,
              slice_get_within os number.n o.0 o.1,
              record {
                o = o.0;
                there = o.1;
                labeled = (
                  number.k,
                  slice_get_within o.0.sections number.k t.0 o.2,
                  record {
                    t = t.0;
                    there = o.2;
                    holds_data = not_code;
                    labeled = (word.w, word.inside, subst (LabelsPlace os fs (word_spot number.n number.k word.w)) (sym place) word.labels);
                  },
                );
              },
            ),
            label ∙ ap (λ (r : Place). label_of r.function r.word) (sym place),
          )

      pub stands_back : (l : Label) (q : Place) → place_of l ≡ Some q → Stands p l → IsTakenPlace os fs q × (l ≡ label_of q.function q.word)
      stands_back l q named (inl d) = data_label l q named d
      stands_back l q named (inr c) = code_label l q named c

      -- a taken place is a word of a function
      record IsWordPlace (q : Place) : Type 0 where
        pub i : ℕ
        pub f : FunctionSymbol
        pub at : slice_get fs i ≡ Some f
        pub number : q.function ≡ i + 1
        pub inside : q.word < f.size / WORD_SIZE

      place_word : (q : Place) → IsLabelPlace os (map extent_in fs) (label_of q.function q.word) → IsWordPlace q
      place_word q place = by place.g refl place.place.number
        where
          names : (q.function ≡ place.g) × (q.word ≡ place.j)
          names = labels_same q.function q.word place.g place.j place.is

          by : (g : ℕ) → place.g ≡ g → extent_of (map extent_in fs) g ≡ Some place.place.x → IsWordPlace q
          by zero is at = absurd (cc)
          by (suc i) is at =
              let f = numbered_extent fs i place.place.x at in
              let size : f.0.size ≡ place.place.x.size = ap (λ (x : Extent). x.size) f.2 in
              let even = (there_is i f.0 f.1).even.size in
              let inside = place.place.word.inside in
              let function = names.0 in
              let word = names.1 in
              record { i = i; f = f.0; at = f.1; number = omega (arith, function, is); inside = omega (arith, inside, size, even, word) }

      word_place_of : (q : Place) → IsTakenPlace os fs q → IsWordPlace q
      word_place_of q (inl (i, less, by)) =
          let names = by.named.2 in
          let word = word_lifted i by.f by.named.0 names.x by.there names.lifted in
          place_word q (lifted_in os (map extent_in fs) (is_hint word.x.op) (i + 1) by.f.object by.f.section (by.f.offset + WORD_SIZE * by.named.0) word.x names.x (label_of q.function q.word) word.lifted names.names)
      word_place_of q (inr (n, less, by)) =
          let place = by.labeled.2.labeled.2 in
          place_word q (label_in os (map extent_in fs) (meaning_of os n place.r) (label_of q.function q.word) (is_label os fs (meaning_of os n place.r) q h.functions place.place))

      module _ (takes_all : (q : Place) → (is_taken q ≡ true) ↔ IsTakenPlace os fs q) where
        pub taken_functions : IsRising p.taken → ((f : ℕ) → Contains p.taken f ↔ ((1 ≤ f) × (f ≤ length fs) × (is_taken (record { function = f; word = 0 }) ≡ true))) → AreTaken p labels.Fun p.taken
        taken_functions rising these = record {
          rising = rising;
          each = λ n c. stands_so (record { function = n; word = 0 }) ((takes_all (record { function = n; word = 0 })).0 ((these n).0 c).2);
          all = λ n s. (
              let q = stands_back (labels.Fun n) (record { function = n; word = 0 }) refl s in
              let w = word_place_of (record { function = n; word = 0 }) q.0 in
              let number = w.number in
              let within = slice_get_within fs w.i w.f w.at in
              (these n).1 (omega (arith, number), omega (arith, number, within), (takes_all (record { function = n; word = 0 })).1 q.0));
        }

        taken_start : (f : ℕ) → f ≡ 0 → AreTaken p (λ i. labels.Place f i) []
        taken_start f zero_is = record {
          rising = tt;
          each = λ n c. absurd (none_contained n c);
          all = λ n s. (
              let q = stands_back (labels.Place f n) (record { function = f; word = n }) refl s in
              let number = (word_place_of (record { function = f; word = n }) q.0).number in
              absurd (omega (arith, number, zero_is)));
        }

        inner_label : (f w : ℕ) → 1 ≤ w → label_of f w ≡ labels.Place f w
        inner_label f zero more = absurd (omega (arith, more))
        inner_label f (suc w) more = refl

        taken_in : (f : ℕ) (g : Function) → HasFunction f g → AreTaken p (λ i. labels.Place f i) g.taken
        taken_in f g has = subst (λ m. AreTaken p (λ i. labels.Place m i) g.taken) (sym has.number) (record {
          rising = has.built.rising;
          each = λ n c. (
              let its = (has.built.taken n).0 c in
              subst (Stands p) (inner_label (has.i + 1) n its.0) (stands_so (record { function = has.i + 1; word = n }) ((takes_all (record { function = has.i + 1; word = n })).0 its.2)));
          all = λ n s. (
              let q = stands_back (labels.Place (has.i + 1) n) (record { function = has.i + 1; word = n }) refl s in
              let w = word_place_of (record { function = has.i + 1; word = n }) q.0 in
              let number = w.number in
              let index : w.i ≡ has.i = omega (arith, number) in
              let symbol : w.f ≡ has.symbol = at_one (slice_get fs has.i) w.f has.symbol (ap (slice_get fs) (sym index) ∙ w.at) has.at in
              let inside : n < has.symbol.size / WORD_SIZE = subst (λ (x : FunctionSymbol). n < x.size / WORD_SIZE) symbol w.inside in
              let more = (word_place (has.i + 1) n (has.i + 1) n (sym q.1)).2 in
              (has.built.taken n).1 (more, inside, (takes_all (record { function = has.i + 1; word = n })).1 q.0));
        })

        pub taken_places : (f : ℕ) (g : Function) → slice_get p.functions f ≡ Some g → AreTaken p (λ i. labels.Place f i) g.taken
        taken_places f g at = by (function_by f g at)
          where
            by : (g ≡ start_code p.data_end p.entry) × (f ≡ 0) ⊎ HasFunction f g → AreTaken p (λ i. labels.Place f i) g.taken
            by (inl start) = subst (AreTaken p (λ i. labels.Place f i)) (ap (λ (x : Function). x.taken) (sym start.0)) (taken_start f start.1)
            by (inr has) = taken_in f g has

        -- ---- the program

        entry_there : (number : ℕ) (q : Spot) (at : IsEntryAt os name q) → ((r : Place) → IsPlaceIn fs q r → (w : ℕ) × IsPlaceIn fs q (record { function = number; word = w })) → extent_of (map extent_in fs) number ≡ Some at.x
        entry_there number q at found =
            let e = at.entry in
            let has = h.functions.all at.x (e.j, e.symbol, e.section, e.function) in
            let x_is : extent_in has.f ≡ at.x = has.is in
            let object : q.object ≡ has.f.object = ap (λ (r : Spot). r.object) at.at ∙ ap (λ (x : Extent). x.object) (sym has.is) in
            let section : q.section ≡ has.f.section = ap (λ (r : Spot). r.section) at.at ∙ ap (λ (x : Extent). x.section) (sym has.is) in
            let offset : q.offset ≡ has.f.offset = ap (λ (r : Spot). r.offset) at.at ∙ ap (λ (x : Extent). x.offset) (sym has.is) in
            let some = (there_is has.i has.f has.there).lies.some in
            let here : IsPlaceIn fs q (record { function = has.i + 1; word = 0 }) = record {
              from = omega arith;
              f = has.f;
              there = (let back : (has.i + 1) - 1 ≡ has.i = omega arith in ap (slice_get fs) back ∙ has.there);
              section = and_from (has.f.object == q.object) (has.f.section == q.section) (eq-eqb has.f.object q.object (sym object)) (eq-eqb has.f.section q.section (sym section));
              at = omega (arith, offset);
              inside = omega (arith, some);
            } in
            let w = found (record { function = has.i + 1; word = 0 }) here in
            let one = place_at os fs q (record { function = number; word = w.0 }) h.functions w.1 in
            let two = place_at os fs q (record { function = has.i + 1; word = 0 }) h.functions here in
            let same = one_place os name (map extent_in fs) q.object q.section (pos q.offset) number (has.i + 1) w.0 0 fixed one two in
            let next : has.i + 1 ≡ suc has.i = omega arith in
            ap (extent_of (map extent_in fs)) (same.0 ∙ next) ∙ number_of fs has.i has.f has.there ∙ ap Some has.is

        pub program_is : (q : Spot) → IsEntryAt os name q → ((r : Place) → IsPlaceIn fs q r → (w : ℕ) × IsPlaceIn fs q (record { function = p.entry; word = w }))
            → p.code ≡ map code_section (filter holds_code (all_sections os)) → IsRising p.taken → ((f : ℕ) → Contains p.taken f ↔ ((1 ≤ f) × (f ≤ length fs) × (is_taken (record { function = f; word = 0 }) ≡ true)))
            → p.ears ≡ of_symbols (ear_of os) os → p.globals ≡ of_symbols (global_of os) os → p.data_end ≡ data_end_of os → IsProgramOf os name p
        program_is q at found code rising these ears globals data_end = record {
          fs = map extent_in fs;
          numbering = numbering;
          start = functions.start;
          count = (let count = functions.count in let long = length-map fs extent_in in omega (arith, count, long));
          functions = all_functions;
          places = taken_places;
          code = code;
          taken = taken_functions rising these;
          extent = at.x;
          named = at.entry;
          entry = entry_there p.entry q at found;
          part_count = part_count;
          parts = has_part;
          ears = ears;
          globals = globals;
          data_end = data_end;
        }
