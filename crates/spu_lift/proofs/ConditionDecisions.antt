-- What faults ask can be decided: of words, relocations, symbols and sections.
use Rattle.std.proofs.Common.{◌≡◌, ◌≢◌, ℕ, ◌%◌, ◌<◌, ◌⊎◌, true, ◌&&◌, not, Option, Some, None, List, ℤ, pos, negsuc, refl, sym, ap, ◌∙◌, inl, inr}
use Rattle.std.specs.Prelude.{codes, nat_eq}
use Rattle.std.specs.List.{starts_with}
use Rattle.std.specs.Str.{bytes_eq}
use Rattle.std.proofs.lemmas.Option.{none-some, same_Some}
use Rattle.std.proofs.lemmas.Slice.Eq.{bytes_eq-Decides}
use Rattle.spu_word.specs.declared.limits.TheConstants.{WORD_SIZE}
use Rattle.spu_word.specs.Bytes.{be_number}
use Rattle.spu_word.proofs.Places.{nat_equal}
use Rattle.spu_isa.specs.declared.operation.Kind.{Kind}
use Rattle.spu_isa.specs.declared.operation.Kind.TheVariants as kind
use Rattle.spu_isa.specs.declared.operation.Op.{Op}
use Rattle.spu_isa.specs.declared.instruction.Inst.{Inst}
use Rattle.spu_isa.specs.Table.{Decodes, row_of}
use Rattle.spu_isa.specs.Decoding.{decoded}
use Rattle.spu_isa.proofs.Decoded.{decoded_decodes, decodes_decoded}
use Rattle.spu_elf.specs.declared.objects.SecKind.{SecKind}
use Rattle.spu_elf.specs.declared.objects.SecKind.TheVariants as kinds
use Rattle.spu_elf.specs.declared.objects.SymKind.{SymKind}
use Rattle.spu_elf.specs.declared.objects.SymKind.TheVariants as names
use Rattle.spu_elf.specs.declared.objects.Section.{Section}
use Rattle.spu_elf.specs.declared.objects.Symbol.{Symbol}
use Rattle.spu_elf.specs.declared.objects.Reloc.{Reloc}
use Rattle.spu_elf.specs.declared.objects.Object.{Object}
use Rattle.spu_reloc.specs.declared.field.RelocKind.{RelocKind}
use Rattle.spu_reloc.specs.declared.field.RelocKind.TheVariants.{Addr16, Addr16Hi, Addr16Lo, Addr18, Addr32, Rel16}
use Rattle.spu_reloc.specs.Fields.{fits_on, number_of}
use Rattle.spu_lift.specs.declared.program.TheConstants.{MAX_ALIGN}
use Rattle.spu_lift.specs.declared.tables.Meaning.{Meaning}
use Rattle.spu_lift.specs.declared.tables.Meaning.TheVariants as meanings
use Rattle.spu_lift.specs.Places.{link_register}
use Rattle.spu_lift.specs.WellFormed.{is_direct, needs_operand, takes_label, takes_number}
use Rattle.spu_lift.specs.Tables.{Definition, definition_of, numbered, reloc_at, section_at, symbol_at, target_of}
use Rattle.spu_lift.specs.Extents.{Extent, Holds, IsExtent}
use Rattle.spu_lift.specs.Meanings.{IsOnHint, field_of, is_hint, meaning_of}
use Rattle.spu_lift.specs.LiftFaults.{FitsIn, GoesAstray, HasAddend, IsAstray, IsBadAddend, IsBadReloc, IsDuplicate, IsFiller, IsMisalignedSection, IsOutside, IsReserved, IsSecond, IsShared, IsUnknown, IsWrong, LinksOtherwise, MayGo, NamesCode, ReadsOfCode, is_filler}
use Rattle.spu_lift.proofs.OneExtent.{extent_equal}
use Rattle.spu_lift.proofs.DefinitionPlaces.{definition_there}
use Rattle.spu_lift.proofs.Decisions.{Decided, IsBelow, IsSomeOf, always, decided_below, decided_both, decided_by, decided_either, decided_less, decided_not, decided_some, decided_true, decided_unequal, never}
use Rattle.spu_lift.proofs.FunctionSearch.{IsExtentSuch, IsWordSuch, decided_code, decided_extent, decided_holds, decided_word}

-- ---- instructions

abbrev pub IsInstructionSuch : ℕ → (Inst → Type 0) → Type 0
IsInstructionSuch w P = (x : Inst) × Decodes w x × P x

pub decided_instruction : (w : ℕ) (P : Inst → Type 0) → ((x : Inst) → Decided (P x)) → Decided (IsInstructionSuch w P)
decided_instruction w P each =
    decided_by (IsSomeOf (decoded w) P) (IsInstructionSuch w P)
    (λ h. (h.0, decoded_decodes w h.0 h.1, h.2))
    (λ h. (h.0, decodes_decoded w h.0 h.1, h.2))
    (decided_some (decoded w) P (λ x at. each x))

decided_call : (what : Kind) → Decided (what ≡ kind.Call)
decided_call kind.Call = inl refl
decided_call _ = inr (λ e. cc)

decided_pointer_call : (what : Kind) → Decided (what ≡ kind.PointerCall)
decided_pointer_call kind.PointerCall = inl refl
decided_pointer_call _ = inr (λ e. cc)

decided_branch : (what : Kind) → Decided (what ≡ kind.Branch)
decided_branch kind.Branch = inl refl
decided_branch _ = inr (λ e. cc)

-- the word at an offset is a hint
abbrev IsHintIn : Reloc → Section → Type 0
IsHintIn r t = ((t.kind ≡ kinds.Code) × (r.offset % WORD_SIZE ≡ 0)) × IsInstructionSuch (be_number t.bytes r.offset) (λ x. is_hint x.op ≡ true)

pub decided_on_hint : (os : List Object) (n : ℕ) (r : Reloc) → Decided (IsOnHint os n r)
decided_on_hint os n r =
    decided_by (IsSomeOf (section_at os n r.section) (IsHintIn r)) (IsOnHint os n r)
    (λ h. (h.0, h.2.1.0, record { section = h.1; code = h.2.0.0; aligned = h.2.0.1; decodes = h.2.1.1 }, h.2.1.2))
    (λ h. (h.0, h.2.section, ((h.2.code, h.2.aligned), (h.1, h.2.decodes, h.3))))
    (decided_some (section_at os n r.section) (IsHintIn r) (λ t at.
    decided_both ((t.kind ≡ kinds.Code) × (r.offset % WORD_SIZE ≡ 0)) (IsInstructionSuch (be_number t.bytes r.offset) (λ x. is_hint x.op ≡ true))
    (decided_both (t.kind ≡ kinds.Code) (r.offset % WORD_SIZE ≡ 0) (decided_code t.kind) (nat_equal (r.offset % WORD_SIZE) 0))
    (decided_instruction (be_number t.bytes r.offset) (λ x. is_hint x.op ≡ true) (λ x. decided_true (is_hint x.op)))))

-- ---- words of functions

pub decided_unknown : (x : Extent) (offset w : ℕ) → Decided (IsUnknown x offset w)
decided_unknown x offset w =
    decided_by (IsInstructionSuch w (λ y. Unit {0}) → ⊥) (IsUnknown x offset w)
    (λ none y is. none (y, is, tt))
    (λ unknown h. unknown h.0 h.1)
    (decided_not (IsInstructionSuch w (λ y. Unit {0})) (decided_instruction w (λ y. Unit {0}) (λ y. always (Unit {0}) tt)))

pub decided_wrong : (os : List Object) (wrong : Extent → Inst → Option Meaning → Type 0) → ((x : Extent) (y : Inst) (field : Option Meaning) → Decided (wrong x y field)) → (x : Extent) (offset w : ℕ) → Decided (IsWrong os wrong x offset w)
decided_wrong os wrong each x offset w = decided_instruction w (λ y. wrong x y (field_of os x.object x.section offset y)) (λ y. each x y (field_of os x.object x.section offset y))

-- a word to which a branch or call may go
abbrev IsTargetOf : Kind → Extent → Extent → ℕ → Type 0
IsTargetOf what x y j = (j ≡ 0) ⊎ ((what ≡ kind.Branch) × (y ≡ x))

decided_may_go : (os : List Object) (what : Kind) (x : Extent) (field : Option Meaning) → Decided (MayGo os what x field)
decided_may_go os what x None = never ⊥ (λ h. h)
decided_may_go os what x (Some (meanings.Number v)) = never ⊥ (λ h. h)
decided_may_go os what x (Some meanings.Unknown) = never ⊥ (λ h. h)
decided_may_go os what x (Some (meanings.Code n k offset)) =
    decided_by (IsWordSuch os (IsTargetOf what x) n k offset) (MayGo os what x (Some (meanings.Code n k offset)))
    (λ h. (h.x, h.j, h.word, h.holds))
    (λ h. record { x = h.0; j = h.1; word = h.2; holds = h.3 })
    (decided_word os (IsTargetOf what x) (λ y j.
    decided_either (j ≡ 0) ((what ≡ kind.Branch) × (y ≡ x)) (nat_equal j 0)
    (decided_both (what ≡ kind.Branch) (y ≡ x) (decided_branch what) (extent_equal y x))) n k offset)

pub decided_astray : (os : List Object) (x : Extent) (y : Inst) (field : Option Meaning) → Decided (GoesAstray os x y field)
decided_astray os x y field =
    decided_both (is_direct (row_of y.op).kind ≡ true) (MayGo os (row_of y.op).kind x field → ⊥)
    (decided_true (is_direct (row_of y.op).kind))
    (decided_not (MayGo os (row_of y.op).kind x field) (decided_may_go os (row_of y.op).kind x field))

pub decided_links : (x : Extent) (y : Inst) (field : Option Meaning) → Decided (LinksOtherwise x y field)
decided_links x y field =
    decided_both (((row_of y.op).kind ≡ kind.Call) ⊎ ((row_of y.op).kind ≡ kind.PointerCall)) (y.rt ≢ link_register)
    (decided_either ((row_of y.op).kind ≡ kind.Call) ((row_of y.op).kind ≡ kind.PointerCall) (decided_call (row_of y.op).kind) (decided_pointer_call (row_of y.op).kind))
    (decided_unequal y.rt link_register)

decided_names_code : (o : Op) (field : Option Meaning) → Decided (NamesCode o field)
decided_names_code o None = decided_true (needs_operand o)
decided_names_code o (Some (meanings.Number v)) = never ⊥ (λ h. h)
decided_names_code o (Some (meanings.Code n k offset)) = always (Unit {0}) tt
decided_names_code o (Some meanings.Unknown) = never ⊥ (λ h. h)

pub decided_reads : (x : Extent) (y : Inst) (field : Option Meaning) → Decided (ReadsOfCode x y field)
decided_reads x y field =
    decided_both ((takes_number y.op && not (takes_label y.op)) ≡ true) (NamesCode y.op field)
    (decided_true (takes_number y.op && not (takes_label y.op))) (decided_names_code y.op field)

-- ---- words of sections of code

decided_filler : (w : ℕ) → Decided (IsFiller w)
decided_filler w =
    decided_either (w ≡ 0) (IsInstructionSuch w (λ x. is_filler x.op ≡ true)) (nat_equal w 0)
    (decided_instruction w (λ x. is_filler x.op ≡ true) (λ x. decided_true (is_filler x.op)))

pub decided_outside : (os : List Object) (n k offset w : ℕ) → Decided (IsOutside os n k offset w)
decided_outside os n k offset w =
    decided_both ((x : Extent) → IsExtent os x → Holds x n k offset → ⊥) (IsFiller w → ⊥)
    (decided_by (IsExtentSuch os (λ x. Holds x n k offset) n → ⊥) ((x : Extent) → IsExtent os x → Holds x n k offset → ⊥)
    (λ none x is holds. none (record { x = x; extent = is; object = holds.object; holds = holds }))
    (λ none h. none h.x h.extent h.holds)
    (decided_not (IsExtentSuch os (λ x. Holds x n k offset) n) (decided_extent os (λ x. Holds x n k offset) (λ x. decided_holds x n k offset) n)))
    (decided_not (IsFiller w) (decided_filler w))

-- another extent holds the offset
abbrev IsOther : ℕ → ℕ → ℕ → Extent → Extent → Type 0
IsOther n k offset x y = Holds y n k offset × (x ≢ y)

pub decided_shared : (os : List Object) (n k offset w : ℕ) → Decided (IsShared os n k offset w)
decided_shared os n k offset w =
    decided_by (IsExtentSuch os (λ x. Holds x n k offset × IsExtentSuch os (IsOther n k offset x) n) n) (IsShared os n k offset w)
    (λ h. record { x = h.x; y = h.holds.1.x; one = h.extent; other = h.holds.1.extent; in_one = h.holds.0; in_other = h.holds.1.holds.0; apart = h.holds.1.holds.1 })
    (λ h. record { x = h.x; extent = h.one; object = h.in_one.object; holds = (h.in_one, record { x = h.y; extent = h.other; object = h.in_other.object; holds = (h.in_other, h.apart) }) })
    (decided_extent os (λ x. Holds x n k offset × IsExtentSuch os (IsOther n k offset x) n) (λ x.
    decided_both (Holds x n k offset) (IsExtentSuch os (IsOther n k offset x) n) (decided_holds x n k offset)
    (decided_extent os (IsOther n k offset x) (λ y. decided_both (Holds y n k offset) (x ≢ y) (decided_holds y n k offset) (decided_not (x ≡ y) (extent_equal x y))) n)) n)

-- ---- relocations

abbrev IsKindSuch : (RelocKind → Type 0) → Type 0
IsKindSuch P = (k : RelocKind) × P k

decided_kind : (P : RelocKind → Type 0) → ((k : RelocKind) → Decided (P k)) → Decided (IsKindSuch P)
decided_kind P each = by (each Addr16) (each Addr16Hi) (each Addr16Lo) (each Addr18) (each Addr32) (each Rel16)
  where
    none : (P Addr16 → ⊥) → (P Addr16Hi → ⊥) → (P Addr16Lo → ⊥) → (P Addr18 → ⊥) → (P Addr32 → ⊥) → (P Rel16 → ⊥) → (k : RelocKind) → P k → ⊥
    none a b c d e f Addr16 is = a is
    none a b c d e f Addr16Hi is = b is
    none a b c d e f Addr16Lo is = c is
    none a b c d e f Addr18 is = d is
    none a b c d e f Addr32 is = e is
    none a b c d e f Rel16 is = f is

    by : Decided (P Addr16) → Decided (P Addr16Hi) → Decided (P Addr16Lo) → Decided (P Addr18) → Decided (P Addr32) → Decided (P Rel16) → Decided (IsKindSuch P)
    by (inl is) b c d e f = inl (Addr16, is)
    by (inr a) (inl is) c d e f = inl (Addr16Hi, is)
    by (inr a) (inr b) (inl is) d e f = inl (Addr16Lo, is)
    by (inr a) (inr b) (inr c) (inl is) e f = inl (Addr18, is)
    by (inr a) (inr b) (inr c) (inr d) (inl is) f = inl (Addr32, is)
    by (inr a) (inr b) (inr c) (inr d) (inr e) (inl is) = inl (Rel16, is)
    by (inr a) (inr b) (inr c) (inr d) (inr e) (inr f) = inr (λ h. none a b c d e f h.0 h.1)

abbrev IsKindOf : Section → Reloc → RelocKind → Type 0
IsKindOf t r kind = (number_of kind ≡ r.kind) × IsInstructionSuch (be_number t.bytes r.offset) (λ x. fits_on kind x.op ≡ true)

decided_fits : (k : SecKind) (t : Section) (r : Reloc) → Decided (FitsIn k t r)
decided_fits kinds.Code t r =
    decided_by (IsKindSuch (IsKindOf t r)) (FitsIn kinds.Code t r)
    (λ h. (h.0, h.1.0, h.1.1.0, h.1.1.1, h.1.1.2))
    (λ h. (h.0, (h.1, (h.2, h.3, h.4))))
    (decided_kind (IsKindOf t r) (λ kind.
    decided_both (number_of kind ≡ r.kind) (IsInstructionSuch (be_number t.bytes r.offset) (λ x. fits_on kind x.op ≡ true)) (nat_equal (number_of kind) r.kind)
    (decided_instruction (be_number t.bytes r.offset) (λ x. fits_on kind x.op ≡ true) (λ x. decided_true (fits_on kind x.op)))))
decided_fits kinds.Const t r = nat_equal r.kind (number_of Addr32)
decided_fits kinds.Vars t r = nat_equal r.kind (number_of Addr32)
decided_fits kinds.Zero t r = nat_equal r.kind (number_of Addr32)

abbrev StandsWith : Reloc → Reloc → Type 0
StandsWith r other = (other.section ≡ r.section) × (other.offset ≡ r.offset)

decided_second : (os : List Object) (n i : ℕ) (r : Reloc) → Decided (IsSecond os n i r)
decided_second os n i r =
    decided_by (IsBelow i (λ m. IsSomeOf (reloc_at os n m) (StandsWith r))) (IsSecond os n i r)
    (λ h. record { m = h.0; other = h.2.0; there = h.2.1; earlier = h.1; section = h.2.2.0; offset = h.2.2.1 })
    (λ h. (h.m, h.earlier, (h.other, h.there, (h.section, h.offset))))
    (decided_below (λ m. IsSomeOf (reloc_at os n m) (StandsWith r)) (λ m. decided_some (reloc_at os n m) (StandsWith r) (λ other at.
    decided_both (other.section ≡ r.section) (other.offset ≡ r.offset) (nat_equal other.section r.section) (nat_equal other.offset r.offset))) i)

pub decided_bad_reloc : (os : List Object) (n i : ℕ) (r : Reloc) (t : Section) → Decided (IsBadReloc os n i r t)
decided_bad_reloc os n i r t =
    decided_either (r.offset % WORD_SIZE ≢ 0) (IsSecond os n i r ⊎ (FitsIn t.kind t r → ⊥)) (decided_unequal (r.offset % WORD_SIZE) 0)
    (decided_either (IsSecond os n i r) (FitsIn t.kind t r → ⊥) (decided_second os n i r) (decided_not (FitsIn t.kind t r) (decided_fits t.kind t r)))

pub decided_undefined : (os : List Object) (n : ℕ) (r : Reloc) → Decided (target_of os n r ≡ None)
decided_undefined os n r = by (target_of os n r)
  where
    by : (o : Option Definition) → Decided (o ≡ None)
    by None = inl refl
    by (Some d) = inr (λ e. none-some d (sym e))

decided_nonzero : (z : ℤ) → Decided (z ≢ pos 0)
decided_nonzero (pos m) = elim (nat_equal m 0) [
  | inl is ↦ inr (λ other. other (ap pos is))
  | inr other ↦ inl (λ e. other (let same : m ≡ 0 = cc in same))
]
decided_nonzero (negsuc m) = inl (λ e. cc)

decided_is_function : (k : SymKind) → Decided (k ≡ names.Function)
decided_is_function names.Function = inl refl
decided_is_function _ = inr (λ e. cc)

decided_addend : (r : Reloc) (o : Option Definition) → Decided (HasAddend r o)
decided_addend r None = never ⊥ (λ h. h)
decided_addend r (Some d) = decided_both (d.symbol.kind ≡ names.Function) (r.addend ≢ pos 0) (decided_is_function d.symbol.kind) (decided_nonzero r.addend)

decided_no_word : (os : List Object) (m : Meaning) → Decided (IsAstray os m)
decided_no_word os (meanings.Number v) = never ⊥ (λ h. h)
decided_no_word os meanings.Unknown = never ⊥ (λ h. h)
decided_no_word os (meanings.Code n k offset) =
    decided_by (IsWordSuch os (λ x j. Unit {0}) n k offset → ⊥) (IsAstray os (meanings.Code n k offset))
    (λ none x j is. none (record { x = x; j = j; word = is; holds = tt }))
    (λ none h. none h.x h.j h.word)
    (decided_not (IsWordSuch os (λ x j. Unit {0}) n k offset) (decided_word os (λ x j. Unit {0}) (λ x j. always (Unit {0}) tt) n k offset))

pub decided_bad_addend : (os : List Object) (n i : ℕ) (r : Reloc) (t : Section) → Decided (IsBadAddend os n i r t)
decided_bad_addend os n i r t =
    decided_either (HasAddend r (target_of os n r)) (IsAstray os (meaning_of os n r)) (decided_addend r (target_of os n r)) (decided_no_word os (meaning_of os n r))

-- ---- symbols and sections

pub decided_name : (one other : List ℕ) → Decided (one ≡ other)
decided_name one other = let tells = bytes_eq-Decides one other in decided_by (bytes_eq one other ≡ true) (one ≡ other) tells.0 tells.1 (decided_true (bytes_eq one other))

pub decided_reserved : (name : List ℕ) → Decided (IsReserved name)
decided_reserved name =
    decided_either (name ≡ codes "_start") ((name ≡ codes "__image_ea") ⊎ (starts_with nat_eq name (codes "__stack_") ≡ true)) (decided_name name (codes "_start"))
    (decided_either (name ≡ codes "__image_ea") (starts_with nat_eq name (codes "__stack_") ≡ true) (decided_name name (codes "__image_ea")) (decided_true (starts_with nat_eq name (codes "__stack_"))))

-- the definition of these numbers is that of the symbol
same_definition : (os : List Object) (name : List ℕ) (n j : ℕ) (s : Symbol) (d : Definition) → definition_of os name ≡ Some d → symbol_at os n j ≡ Some s → d.object ≡ n → d.number ≡ j → d ≡ numbered n j s
same_definition os name n j s d found at object number =
    let there = (definition_there os name d found).there in
    let symbol : d.symbol ≡ s = same_Some d.symbol s (sym there ∙ ap (λ m. symbol_at os m d.number) object ∙ ap (symbol_at os n) number ∙ at) in
    ap (λ m. numbered m d.number d.symbol) object ∙ ap (λ m. numbered n m d.symbol) number ∙ ap (numbered n j) symbol

decided_first : (os : List Object) (name : List ℕ) (n j : ℕ) (s : Symbol) → symbol_at os n j ≡ Some s → (o : Option Definition) → definition_of os name ≡ o → Decided (o ≡ Some (numbered n j s))
decided_first os name n j s at None found = inr (λ e. none-some (numbered n j s) e)
decided_first os name n j s at (Some d) found = elim (nat_equal d.object n) [
  | inr apart ↦ inr (λ e. apart (ap (λ (x : Definition). x.object) (same_Some d (numbered n j s) e)))
  | inl object ↦ elim (nat_equal d.number j) [
    | inr apart ↦ inr (λ e. apart (ap (λ (x : Definition). x.number) (same_Some d (numbered n j s) e)))
    | inl number ↦ inl (ap Some (same_definition os name n j s d found at object number))
  ]
]

pub decided_duplicate : (os : List Object) (n j : ℕ) (s : Symbol) → symbol_at os n j ≡ Some s → Decided (IsDuplicate os n j s)
decided_duplicate os n j s at = decided_not (definition_of os s.name ≡ Some (numbered n j s)) (decided_first os s.name n j s at (definition_of os s.name) refl)

pub decided_misaligned : (t : Section) → Decided (IsMisalignedSection t)
decided_misaligned t =
    decided_either (MAX_ALIGN < t.align) ((t.kind ≡ kinds.Code) × (t.size % WORD_SIZE ≢ 0)) (decided_less MAX_ALIGN t.align)
    (decided_both (t.kind ≡ kinds.Code) (t.size % WORD_SIZE ≢ 0) (decided_code t.kind) (decided_unequal (t.size % WORD_SIZE) 0))
