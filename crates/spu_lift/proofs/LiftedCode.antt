-- The code of a lifted program is well formed: its instructions, and what they and the data name.
use Rattle.std.proofs.Common.{◌≡◌, ◌≢◌, ℕ, zero, suc, ◌+◌, ◌-◌, ◌*◌, ◌/◌, ◌%◌, ◌^◌, ◌<◌, ◌≤◌, ◌⊎◌, Bool, true, false, not, ◌&&◌, ◌==◌, if◌then◌else◌, List, [], ◌∷◌, length, take, Option, Some, None, slice_get, ℤ, pos, negsuc, ◌+ℤ◌, ◌*ℤ◌, refl, sym, ap, subst, ◌∙◌, inl, inr, arith, lit<, true≢false}
use Rattle.std.specs.Prelude.{All, filter}
use Rattle.std.specs.Option.{option_and_then}
use Rattle.std.specs.List.{Contains, find}
use Rattle.std.proofs.lemmas.Int.{ints}
use Rattle.std.proofs.lemmas.Bool.{and_parts, cases_Bool, eqb-true, eqb-false, false_from_ne_true, true_from_ne_false}
use Rattle.std.proofs.lemmas.Option.{slice_get_within}
use Rattle.spu_word.specs.declared.limits.TheConstants.{MAX_OBJECTS, WORD_SIZE}
use Rattle.spu_word.specs.Bytes.{be_number}
use Rattle.spu_word.proofs.Places.{get_some, nat_equal}
use Rattle.spu_isa.specs.declared.operation.Op.{Op}
use Rattle.spu_isa.specs.declared.operation.Op.TheVariants as op
use Rattle.spu_isa.specs.declared.operation.Layout.{Layout}
use Rattle.spu_isa.specs.declared.operation.Kind.{Kind}
use Rattle.spu_isa.specs.declared.operation.Kind.TheVariants as kind
use Rattle.spu_isa.specs.declared.instruction.Inst.{Inst}
use Rattle.spu_isa.specs.declared.operation.Layout.TheVariants.{HintA, HintB, Ri10, Ri16, Ri18, Ri7, Rr, Rrr, StopForm}
use Rattle.spu_isa.specs.Table.{Decodes, InLayout, InRange, row_of}
use Rattle.spu_isa.proofs.Decoded.{one_instruction_lem}
use Rattle.spu_isa.proofs.Words.{in_range_from_Decodes}
use Rattle.spu_reloc.specs.declared.field.RelocKind.{RelocKind}
use Rattle.spu_reloc.specs.declared.field.RelocKind.TheVariants.{Addr16, Addr16Hi, Addr16Lo, Addr18, Addr32, Rel16}
use Rattle.spu_reloc.specs.Fields.{fits_on, kind_on}
use Rattle.spu_reloc.proofs.Patches.{one_kind}
use Rattle.spu_elf.specs.declared.objects.SecKind.{SecKind}
use Rattle.spu_elf.specs.declared.objects.SecKind.TheVariants as kinds
use Rattle.spu_elf.specs.declared.objects.Section.{Section}
use Rattle.spu_elf.specs.declared.objects.SymPlace.{SymPlace}
use Rattle.spu_elf.specs.declared.objects.SymPlace.TheVariants as places
use Rattle.spu_elf.specs.declared.objects.Symbol.{Symbol}
use Rattle.spu_elf.specs.declared.objects.Reloc.{Reloc}
use Rattle.spu_elf.specs.declared.objects.Object.{Object}
use Rattle.spu_elf.specs.WellFormed.{IsWellFormed}
use Rattle.spu_lift.specs.declared.fault.LiftKind.{LiftKind}
use Rattle.spu_lift.specs.declared.fault.LiftKind.TheVariants.{BadRelocation, BadTarget, FunctionOverlap, LinkRegister, Misaligned, ReadsCode}
use Rattle.spu_lift.specs.declared.fault.LiftFault.TheVariants as faults
use Rattle.spu_lift.specs.declared.program.Label.{Label}
use Rattle.spu_lift.specs.declared.program.Label.TheVariants.{Fun, Place}
use Rattle.spu_lift.specs.declared.program.Operand.{Operand}
use Rattle.spu_lift.specs.declared.program.Operand.TheVariants as operand
use Rattle.spu_lift.specs.declared.program.SymInst.{SymInst}
use Rattle.spu_lift.specs.declared.program.Function.{Function}
use Rattle.spu_lift.specs.declared.program.Part.{Part}
use Rattle.spu_lift.specs.declared.program.Prog.{Prog}
use Rattle.spu_lift.specs.declared.tables.Meaning.{Meaning}
use Rattle.spu_lift.specs.declared.tables.Meaning.TheVariants.{Number, Code, Unknown}
use Rattle.spu_lift.specs.StartCode.{of_register, start_code, symbolic}
use Rattle.spu_lift.specs.Places.{IsPlace, instruction_at, kind_of, link_register, place_in, taken_in, taken_places}
use Rattle.spu_lift.specs.WellFormed.{IsCallee, IsInstruction, IsOperand, IsTakenTarget, is_direct, needs_operand, takes_label, takes_number}
use Rattle.spu_lift.specs.Tables.{DataPlace, Definition, all_sections, data_place, holds_data, reloc_at, reloc_on, relocs_of, section_at, sections_before, target_of}
use Rattle.spu_lift.specs.Extents.{Extent, IsExtent, extent_of, extent_name, label_of}
use Rattle.spu_lift.specs.Meanings.{IsInstructionAt, IsOnHint, field_by, field_of, is_hint, is_relative, meaning_by, meaning_inside, meaning_of, meaning_with, modulo}
use Rattle.spu_lift.specs.Lifted.{IsFunctionOf, IsLabelOf, IsLiftedAs, IsLiftedWord, IsOperandOf, IsPartOf, IsPlaceAt, IsProgramOf, Stands, StandsInCode, StandsInData, operand_to, with_operand}
use Rattle.spu_lift.specs.LiftFaults.{FitsIn, GoesAstray, IsAbsent, IsBadReloc, IsWrong, Lifted, LinksOtherwise, MayGo, NamesCode, OfWord, ReadsOfCode}
use Rattle.spu_lift.proofs.Rising.{at_contains, contains_at}
use Rattle.spu_lift.proofs.SectionNumbers.{numbered_at}
use Rattle.spu_lift.proofs.DefinitionPlaces.{found_there}
use Rattle.spu_lift.proofs.OneExtent.{at_one}
use Rattle.spu_lift.proofs.OneProgram.{AreFixed, function_there}
use Rattle.spu_lift.proofs.StartFormed.{brsl_formed, lqr_formed, stop_formed}

no : {A : Type 0} → false ≡ true → A
no e = absurd (true≢false (sym e))

-- what is known of objects that stand for a program
pub record IsLiftedFrom (os : List Object) (entry : List ℕ) (p : Prog) : Type 0 where
  pub few : length os ≤ MAX_OBJECTS
  pub formed : All IsWellFormed os
  pub lifted : Lifted os entry p

-- ---- relocations at places

-- the first relocation at an offset of a section
pub record IsRelocOn (os : List Object) (n k offset : ℕ) (r : Reloc) : Type 0 where
  pub i : ℕ
  pub there : reloc_at os n i ≡ Some r
  pub section : r.section ≡ k
  pub at : r.offset ≡ offset

pub reloc_is : (os : List Object) (n k offset : ℕ) (r : Reloc) → reloc_on os n k offset ≡ Some r → IsRelocOn os n k offset r
reloc_is os n k offset r at =
    let f = found_there (λ (x : Reloc). (x.section == k) && (x.offset == offset)) (relocs_of os n) r at in
    let parts = and_parts (r.section == k) (r.offset == offset) f.2 in
    record { i = f.0; there = f.1; section = eqb-true r.section k parts.0; at = eqb-true r.offset offset parts.1 }

-- a relocation that isn't on a hint is well placed
pub not_bad : (os : List Object) (entry : List ℕ) (n i : ℕ) (r : Reloc) (t : Section) → IsAbsent BadRelocation os entry → reloc_at os n i ≡ Some r → (IsOnHint os n r → ⊥) → section_at os n r.section ≡ Some t → IsBadReloc os n i r t → ⊥
not_bad os entry n i r t absent there judged within bad =
    absent (n ∷ r.section ∷ r.offset ∷ i ∷ []) (faults.Site BadRelocation n t.name r.offset)
    (record { n = n; i = i; reloc = r; there = there; judged = judged; section = t; in_section = within; bad = bad; at = refl; told = refl })

-- ---- which operations relocations fit

abbrev is_address : RelocKind → Bool
is_address Addr32 = true
is_address _ = false

abbrev has_kind : Op → Bool
has_kind o = not (is_address (kind_on o))

address_kind : (k : RelocKind) → is_address k ≡ true → k ≡ Addr32
address_kind Addr16 e = no e
address_kind Addr16Hi e = no e
address_kind Addr16Lo e = no e
address_kind Addr18 e = no e
address_kind Addr32 e = refl
address_kind Rel16 e = no e

fit_has_kind : (k : RelocKind) (o : Op) → fits_on k o ≡ true → has_kind o ≡ true
fit_has_kind k o fits = elim (cases_Bool (is_address (kind_on o))) [
  | inl is ↦
      let same : k ≡ Addr32 = one_kind k o fits ∙ address_kind (kind_on o) is in
      absurd (true≢false (sym fits ∙ ap (λ x. fits_on x o) same))
  | inr not ↦ rw not refl
]

number_op : (o : Op) → has_kind o ≡ true → is_direct (row_of o).kind ≡ false → takes_number o ≡ true
number_op op.Bra e d = absurd (true≢false d)
number_op op.Brasl e d = absurd (true≢false d)
number_op op.Lqa e d = refl
number_op op.Stqa e d = refl
number_op op.Ilhu e d = refl
number_op op.Iohl e d = refl
number_op op.Ila e d = refl
number_op op.Br e d = absurd (true≢false d)
number_op op.Brsl e d = absurd (true≢false d)
number_op op.Brz e d = absurd (true≢false d)
number_op op.Brnz e d = absurd (true≢false d)
number_op op.Brhz e d = absurd (true≢false d)
number_op op.Brhnz e d = absurd (true≢false d)
number_op op.Lqr e d = refl
number_op op.Stqr e d = refl
number_op _ e d = no e

label_op : (o : Op) → has_kind o ≡ true → is_direct (row_of o).kind ≡ false → ((takes_number o && not (takes_label o)) ≡ true → ⊥) → takes_label o ≡ true
label_op o e d reads = elim (cases_Bool (takes_label o)) [
  | inl is ↦ is
  | inr not ↦ absurd (reads (rw (number_op o e d, not) refl))
]

plain_op : (o : Op) → ((takes_number o && not (takes_label o)) ≡ true → needs_operand o ≡ true → ⊥) → (is_direct (row_of o).kind ≡ true → ⊥) → needs_operand o ≡ false
plain_op op.Lqr reads direct = absurd (reads refl refl)
plain_op op.Stqr reads direct = absurd (reads refl refl)
plain_op _ reads direct = false_from_ne_true _ direct

-- ---- an instruction with another operand

zero_imm : Inst → Inst
zero_imm x = record x { imm = pos 0 }

zero_layout : (l : Layout) (x : Inst) → InLayout l x → InLayout l (record x { imm = pos 0 })
zero_layout Rr x h = (h.0, h.1, h.2, h.3, refl)
zero_layout Rrr x h = (h.0, h.1, h.2, h.3, refl)
zero_layout Ri7 x h = (h.0, h.1, h.2, h.3, omega (arith, ints), omega (arith, ints))
zero_layout Ri10 x h = (h.0, h.1, h.2, h.3, omega (arith, ints), omega (arith, ints))
zero_layout Ri16 x h = (h.0, h.1, h.2, h.3, omega (arith, ints), omega (arith, ints))
zero_layout Ri18 x h = (h.0, h.1, h.2, h.3, omega (arith, ints), omega (arith, ints))
zero_layout HintA x h = (h.0, h.1, h.2, h.3, refl)
zero_layout HintB x h = (h.0, h.1, h.2, h.3, omega (arith, ints), omega (arith, ints))
zero_layout StopForm x h = (h.0, h.1, h.2, h.3, omega (arith, ints), omega (arith, ints))

zero_range : (x : Inst) → InRange x → InRange (record x { imm = pos 0 })
zero_range x h = record { layout = zero_layout (row_of x.op).layout x h.layout; zeros = h.zeros }

with_range : (x : Inst) (o : Operand) → InRange x → InRange (with_operand x o).inst
with_range x operand.Plain h = h
with_range x (operand.Number v) h = zero_range x h
with_range x (operand.Address l) h = zero_range x h
with_range x (operand.Call g) h = zero_range x h
with_range x (operand.Jump g) h = zero_range x h
with_range x (operand.Branch i) h = zero_range x h

pub with_is : (x : Inst) (o : Operand) → ((with_operand x o).operand ≡ o) × ((with_operand x o).inst.op ≡ x.op) × ((with_operand x o).inst.rt ≡ x.rt)
with_is x operand.Plain = (refl, refl, refl)
with_is x (operand.Number v) = (refl, refl, refl)
with_is x (operand.Address l) = (refl, refl, refl)
with_is x (operand.Call g) = (refl, refl, refl)
with_is x (operand.Jump g) = (refl, refl, refl)
with_is x (operand.Branch i) = (refl, refl, refl)

with_empty : (x : Inst) (o : Operand) → (with_operand x o).operand ≢ operand.Plain → (with_operand x o).inst.imm ≡ pos 0
with_empty x operand.Plain ne = absurd (ne refl)
with_empty x (operand.Number v) ne = refl
with_empty x (operand.Address l) ne = refl
with_empty x (operand.Call g) ne = refl
with_empty x (operand.Jump g) ne = refl
with_empty x (operand.Branch i) ne = refl

-- ---- numbers are words

modulo_small : (z : ℤ) → modulo z < 2 ^ 32
modulo_small (pos n) = omega arith
modulo_small (negsuc n) = omega arith

number_same : (v w : ℕ) → Number v ≡ Number w → v ≡ w
number_same v w e = cc

inside_small : (n k value v : ℕ) (addend : ℤ) (d : Option DataPlace) → meaning_inside n k value addend d ≡ Number v → v < 2 ^ 32
inside_small n k value v addend None e = absurd (cc)
inside_small n k value v addend (Some d) e = subst (λ x. x < 2 ^ 32) (number_same (modulo (pos d.address +ℤ addend)) v e) (modulo_small (pos d.address +ℤ addend))

by_small : (os : List Object) (n : ℕ) (s : Symbol) (addend : ℤ) (v : ℕ) (place : SymPlace) → meaning_by os n s addend place ≡ Number v → v < 2 ^ 32
by_small os n s addend v places.Undefined e = absurd (cc)
by_small os n s addend v places.Absolute e = subst (λ x. x < 2 ^ 32) (number_same (modulo (pos s.value +ℤ addend)) v e) (modulo_small (pos s.value +ℤ addend))
by_small os n s addend v (places.Inside k) e = inside_small n k s.value v addend (data_place os n s) e

with_small : (os : List Object) (addend : ℤ) (v : ℕ) (d : Option Definition) → meaning_with os addend d ≡ Number v → v < 2 ^ 32
with_small os addend v None e = absurd (cc)
with_small os addend v (Some d) e = by_small os d.object d.symbol addend v d.symbol.place e

pub number_small : (os : List Object) (n : ℕ) (r : Reloc) (v : ℕ) → meaning_of os n r ≡ Number v → v < 2 ^ 32
number_small os n r v e = with_small os r.addend v (target_of os n r) e

-- ---- labels

fun_label : (g j f : ℕ) → label_of g j ≡ Fun f → g ≡ f
fun_label g zero f e = cc
fun_label g (suc j) f e = absurd (cc)

place_label : (g j f i : ℕ) → label_of g j ≡ Place f i → (g ≡ f) × (j ≡ i) × (i ≢ 0)
place_label g zero f i e = absurd (cc)
place_label g (suc j) f i e =
    let one : g ≡ f = cc in
    let two : suc j ≡ i = cc in
    (one, two, λ z. omega (arith, two, z))

address_same : (l m : Label) → operand.Address l ≡ operand.Address m → l ≡ m
address_same l m e = cc

-- a label of a program is that of a place
pub record IsLabelPlace (os : List Object) (fs : List Extent) (l : Label) : Type 0 where
  pub n : ℕ
  pub k : ℕ
  pub offset : ℤ
  pub g : ℕ
  pub j : ℕ
  pub place : IsPlaceAt os fs n k offset g j
  pub is : l ≡ label_of g j

pub label_in : (os : List Object) (fs : List Extent) (m : Meaning) (l : Label) → IsLabelOf os fs m l → IsLabelPlace os fs l
label_in os fs (Number v) l e = absurd e
label_in os fs (Code n k offset) l (g, j, place, is) = record { n = n; k = k; offset = offset; g = g; j = j; place = place; is = is }
label_in os fs Unknown l e = absurd e

pub address_in : (os : List Object) (fs : List Extent) (what : Kind) (f n k : ℕ) (offset : ℤ) (g j : ℕ) (l : Label) → IsPlaceAt os fs n k offset g j → operand_to what f g j ≡ operand.Address l → IsLabelPlace os fs l
address_in os fs kind.Call f n k offset g j l place e = absurd (cc)
address_in os fs kind.Branch f n k offset g j l place e = elim (cases_Bool (g == f)) [
  | inl is ↦ absurd (let bad : operand.Branch j ≡ operand.Address l = rw is at e in cc)
  | inr not ↦ absurd (let bad : operand.Jump g ≡ operand.Address l = rw not at e in cc)
]
address_in os fs _ f n k offset g j l place e = record { n = n; k = k; offset = offset; g = g; j = j; place = place; is = sym (address_same (label_of g j) l e) }

pub operand_in : (os : List Object) (fs : List Extent) (what : Kind) (f : ℕ) (m : Option Meaning) (o : Operand) (l : Label) → IsOperandOf os fs f what m o → o ≡ operand.Address l → IsLabelPlace os fs l
operand_in os fs what f None o l is e = absurd (let bad : operand.Plain ≡ operand.Address l = sym is ∙ e in cc)
operand_in os fs what f (Some (Number v)) o l is e = absurd (let bad : operand.Number v ≡ operand.Address l = sym is ∙ e in cc)
operand_in os fs what f (Some (Code n k offset)) o l (g, j, place, is) e = address_in os fs what f n k offset g j l place (sym is ∙ e)
operand_in os fs what f (Some Unknown) o l is e = absurd is

pub lifted_in : (os : List Object) (fs : List Extent) (hint : Bool) (f n k offset : ℕ) (x : Inst) (s : SymInst) (l : Label) → IsLiftedAs hint os fs f n k offset x s → s.operand ≡ operand.Address l → IsLabelPlace os fs l
lifted_in os fs true f n k offset x s l is e = absurd (let bad : operand.Plain ≡ operand.Address l = sym (ap (λ (y : SymInst). y.operand) is) ∙ e in cc)
lifted_in os fs false f n k offset x s l (o, is, at) e = operand_in os fs (row_of x.op).kind f (field_of os n k offset x) o l is (sym (ap (λ (y : SymInst). y.operand) at ∙ (with_is x o).0) ∙ e)

-- the start code names no label
pub start_names : (d e i : ℕ) (x : SymInst) (l : Label) → slice_get (start_code d e).code i ≡ Some x → x.operand ≡ operand.Address l → ⊥
start_names d e zero x l at is = let same : symbolic (of_register op.Lqr 1 (pos 0)) (operand.Number (d % 2 ^ 32)) ≡ x = cc in let bad : operand.Number (d % 2 ^ 32) ≡ operand.Address l = ap (λ (y : SymInst). y.operand) same ∙ is in absurd (cc)
start_names d e (suc zero) x l at is = let same : symbolic (of_register op.Brsl 0 (pos 0)) (operand.Call e) ≡ x = cc in let bad : operand.Call e ≡ operand.Address l = ap (λ (y : SymInst). y.operand) same ∙ is in absurd (cc)
start_names d e (suc (suc zero)) x l at is = let same : symbolic (of_register op.Stop 0 (pos 0x2000)) operand.Plain ≡ x = cc in let bad : operand.Plain ≡ operand.Address l = ap (λ (y : SymInst). y.operand) same ∙ is in absurd (cc)
start_names d e (suc (suc (suc i))) x l at is = absurd (cc)

-- ---- a program

module _ (os : List Object) (entry : List ℕ) (p : Prog) (h : IsLiftedFrom os entry p) where
  abbrev program : IsProgramOf os entry p
  program = h.lifted.program

  abbrev fs : List Extent
  fs = h.lifted.program.fs

  pub callee : (g : ℕ) (x : Extent) → extent_of fs g ≡ Some x → IsCallee p g
  callee zero x at = absurd (cc)
  callee (suc i) x at =
      let within = slice_get_within fs i x at in
      let count = program.count in
      let less : suc i < length p.functions = omega (arith, within, count) in
      ((λ e. omega (arith, e)), less)

  -- function f of the program, and its extent
  pub record HasExtent (f : ℕ) (g : Function) : Type 0 where
    pub x : Extent
    pub number : extent_of fs f ≡ Some x
    pub is : IsFunctionOf os fs f x g
    pub extent : IsExtent os x

  pub extent_in : (f : ℕ) (g : Function) → f ≢ 0 → slice_get p.functions f ≡ Some g → HasExtent f g
  extent_in zero g ne at = absurd (ne refl)
  extent_in (suc i) g ne at =
      let within = slice_get_within p.functions (suc i) g at in
      let count = program.count in
      let x = get_some fs i (omega (arith, within, count)) in
      record { x = x.0; number = x.1; is = program.functions (suc i) x.0 g x.1 at; extent = program.numbering.extents x.0 (at_contains fs i x.0 x.1) }

  pub function_of : (f : ℕ) (x : Extent) → extent_of fs f ≡ Some x → (g : Function) × (slice_get p.functions f ≡ Some g) × IsFunctionOf os fs f x g
  function_of zero x at = absurd (cc)
  function_of (suc i) x at =
      let less = (callee (suc i) x at).1 in
      let g = get_some p.functions (suc i) less in
      (g.0, g.1, program.functions (suc i) x g.0 at g.1)

  -- a place of code is a place of the program
  pub place_there : (n k : ℕ) (offset : ℤ) (g j : ℕ) → IsPlaceAt os fs n k offset g j → IsPlace p g j
  place_there n k offset g j at =
      let f = function_of g at.x at.number in
      let inside = at.word.inside in
      let size = f.2.size in
      let x = get_some f.0.code j (omega (arith, inside, size)) in
      (x.0, ap (λ o. place_in o j) f.1 ∙ x.1)

  -- an instruction of the start code, or a lifted word of a function
  pub record IsWordIn (f i : ℕ) (x : SymInst) : Type 0 where
    pub g : Function
    pub there : slice_get p.functions f ≡ Some g
    pub here : slice_get g.code i ≡ Some x
    pub extent : HasExtent f g
    pub lifted : IsLiftedWord os fs f extent.x.object extent.x.section (extent.x.offset + WORD_SIZE * i) x

  pub word_in : (f i : ℕ) (x : SymInst) → instruction_at p f i ≡ Some x → (slice_get (start_code p.data_end p.entry).code i ≡ Some x) × (f ≡ 0) ⊎ IsWordIn f i x
  word_in f i x at =
      let g = function_there p f i x at in
      elim (nat_equal f 0) [
        | inl z ↦ inl (
            let start : slice_get p.functions 0 ≡ Some g.0 = ap (slice_get p.functions) (sym z) ∙ g.1 in
            let same : g.0 ≡ start_code p.data_end p.entry = at_one (slice_get p.functions 0) g.0 (start_code p.data_end p.entry) start program.start in
            (ap (λ (y : Function). slice_get y.code i) (sym same) ∙ g.2, z))
        | inr ne ↦ inr (
            let x_in = extent_in f g.0 ne g.1 in
            record { g = g.0; there = g.1; here = g.2; extent = x_in; lifted = x_in.is.words i x g.2 })
      ]

  code_label : (l : Label) (c : StandsInCode p l) → IsLabelPlace os fs l
  code_label l c = by (word_in c.f c.i c.x c.there)
    where
      by : (slice_get (start_code p.data_end p.entry).code c.i ≡ Some c.x) × (c.f ≡ 0) ⊎ IsWordIn c.f c.i c.x → IsLabelPlace os fs l
      by (inl s) = absurd (start_names p.data_end p.entry c.i c.x l s.0 c.is)
      by (inr w) = lifted_in os fs (is_hint w.lifted.x.op) c.f w.extent.x.object w.extent.x.section (w.extent.x.offset + WORD_SIZE * c.i) w.lifted.x c.x l w.lifted.lifted c.is

  -- a part is that of a section of data
  pub record HasSection (i : ℕ) (part : Part) : Type 0 where
    pub at : slice_get p.parts i ≡ Some part
    pub t : Section
    pub n : ℕ
    pub k : ℕ
    pub there : section_at os n k ≡ Some t
    pub holds : holds_data t ≡ true
    pub kept : slice_get (filter holds_data (all_sections os)) i ≡ Some t
    pub front : filter holds_data (sections_before os n k) ≡ take i (filter holds_data (all_sections os))
    pub is : IsPartOf os fs n k t part

  pub section_by_index : (i : ℕ) (part : Part) → slice_get p.parts i ≡ Some part → HasSection i part
  section_by_index i part at =
      let within = slice_get_within p.parts i part at in
      let count = program.part_count in
      let t = get_some (filter holds_data (all_sections os)) i (omega (arith, within, count)) in
      let number = numbered_at holds_data os i t.0 t.1 in
      let x = program.parts number.n number.k t.0 number.there number.passes in
      let same : x.part ≡ part = at_one (slice_get p.parts i) x.part part (ap (slice_get p.parts) (sym number.number) ∙ x.there) at in
      record {
        at = at;
        t = t.0;
        n = number.n;
        k = number.k;
        there = number.there;
        holds = number.passes;
        kept = t.1;
        front = number.front;
        is = subst (λ (y : Part). IsPartOf os fs number.n number.k t.0 y) same x.is;
      }

  pub section_of : (part : Part) → Contains p.parts part → (i : ℕ) × HasSection i part
  section_of part c = let at = contains_at p.parts part c in (at.0, section_by_index at.0 part at.1)

  pub stands_at : (l : Label) → Stands p l → IsLabelPlace os fs l
  stands_at l (inl d) =
      let s = (section_of d.part d.there).1 in
      let w = s.is.labels d.word d.inside in
      subst (λ (m : Label). IsLabelPlace os fs m) d.is (label_in os fs (meaning_of os s.n w.0) d.word.label w.2)
  stands_at l (inr c) = code_label l c

  -- ---- what is taken

  pub taken_callee : (g : ℕ) → Contains p.taken g → IsCallee p g
  taken_callee g c =
      let at = stands_at (Fun g) (program.taken.each g c) in
      let same : at.g ≡ g = fun_label at.g at.j g (sym at.is) in
      subst (IsCallee p) same (callee at.g at.place.x at.place.number)

  taken_by : (f : ℕ) (o : Option Function) → slice_get p.functions f ≡ o → (i : ℕ) → Contains (taken_in o) i → (i ≢ 0) × IsPlace p f i
  taken_by f None at i (k, within, is) = absurd (omega (arith, within))
  taken_by f (Some g) at i c =
      let l = stands_at (Place f i) ((program.places f g at).each i c) in
      let same = place_label l.g l.j f i (sym l.is) in
      let place = place_there l.n l.k l.offset l.g l.j l.place in
      (same.2, subst (λ m. IsPlace p m i) same.0 (subst (IsPlace p l.g) same.1 place))

  pub taken_place : (f i : ℕ) → Contains (taken_places p f) i → (i ≢ 0) × IsPlace p f i
  taken_place f i c = taken_by f (slice_get p.functions f) refl i c

  pub target_taken : (n k : ℕ) (offset : ℤ) (g j : ℕ) → IsPlaceAt os fs n k offset g j → Stands p (label_of g j) → IsTakenTarget p (label_of g j)
  target_taken n k offset g zero at stands = program.taken.all g stands
  target_taken n k offset g (suc j) at stands =
      let f = function_of g at.x at.number in
      subst (λ ns. Contains ns (suc j)) (ap taken_in (sym f.1)) ((program.places g f.0 f.1).all (suc j) stands)

  -- ---- instructions

  -- a word of a function that isn't a hint
  module _ (f i : ℕ) (s : SymInst) (there : instruction_at p f i ≡ Some s) (w : IsWordIn f i s) (plain : is_hint w.lifted.x.op ≡ false) where
    abbrev e : Extent
    e = w.extent.x

    abbrev x : Inst
    x = w.lifted.x

    abbrev at : ℕ
    at = w.extent.x.offset + WORD_SIZE * i

    abbrev field : Option Meaning
    field = field_of os w.extent.x.object w.extent.x.section (w.extent.x.offset + WORD_SIZE * i) w.lifted.x

    inside : WORD_SIZE * i < w.extent.x.size
    inside =
        let within = slice_get_within w.g.code i s w.here in
        let size = w.extent.is.size in
        omega (arith, within, size)

    word : (what : LiftKind) (wrong : Extent → Inst → Option Meaning → Type 0) → wrong w.extent.x w.lifted.x field → OfWord os what (IsWrong os wrong) (w.extent.x.object ∷ w.extent.x.section ∷ at ∷ []) (faults.Word what (extent_name os w.extent.x) (WORD_SIZE * i))
    word what wrong bad = record {
      x = w.extent.x;
      j = i;
      extent = w.extent.extent;
      inside = inside;
      section = w.lifted.section;
      there = w.lifted.here.section;
      bad = (w.lifted.x, w.lifted.here.decodes, bad);
      at = refl;
      told = refl;
    }

    astray : GoesAstray os w.extent.x w.lifted.x field → ⊥
    astray bad = h.lifted.faultless BadTarget (w.extent.x.object ∷ w.extent.x.section ∷ at ∷ []) (faults.Word BadTarget (extent_name os w.extent.x) (WORD_SIZE * i)) (word BadTarget (GoesAstray os) bad)

    links : LinksOtherwise w.extent.x w.lifted.x field → ⊥
    links bad = h.lifted.faultless LinkRegister (w.extent.x.object ∷ w.extent.x.section ∷ at ∷ []) (faults.Word LinkRegister (extent_name os w.extent.x) (WORD_SIZE * i)) (word LinkRegister LinksOtherwise bad)

    reads : ReadsOfCode w.extent.x w.lifted.x field → ⊥
    reads bad = h.lifted.faultless ReadsCode (w.extent.x.object ∷ w.extent.x.section ∷ at ∷ []) (faults.Word ReadsCode (extent_name os w.extent.x) (WORD_SIZE * i)) (word ReadsCode ReadsOfCode bad)

    link_is : ((row_of w.lifted.x.op).kind ≡ kind.Call) ⊎ ((row_of w.lifted.x.op).kind ≡ kind.PointerCall) → w.lifted.x.rt ≡ link_register
    link_is call = elim (nat_equal w.lifted.x.rt link_register) [ inl is ↦ is | inr ne ↦ absurd (links (call, ne)) ]

    -- a relocation on it fits
    fitting : (r : Reloc) → reloc_on os w.extent.x.object w.extent.x.section at ≡ Some r → has_kind w.lifted.x.op ≡ true
    fitting r on = true_from_ne_false (has_kind w.lifted.x.op) (λ bad. not_bad os entry w.extent.x.object its.i r w.lifted.section (h.lifted.faultless BadRelocation) its.there judged within (inr (inr (λ fits. unfit bad (code_fits w.lifted.section.kind w.lifted.here.code fits)))))
      where
        its : IsRelocOn os w.extent.x.object w.extent.x.section at r
        its = reloc_is os w.extent.x.object w.extent.x.section at r on

        within : section_at os w.extent.x.object r.section ≡ Some w.lifted.section
        within = ap (λ m. section_at os w.extent.x.object m) its.section ∙ w.lifted.here.section

        same : (t : Section) (y : Inst) → section_at os w.extent.x.object r.section ≡ Some t → Decodes (be_number t.bytes r.offset) y → y ≡ w.lifted.x
        same t y found decodes =
            let sections : t ≡ w.lifted.section = at_one (section_at os w.extent.x.object r.section) t w.lifted.section found within in
            let word_is : be_number t.bytes r.offset ≡ be_number w.lifted.section.bytes at = ap (λ (u : Section). be_number u.bytes r.offset) sections ∙ ap (be_number w.lifted.section.bytes) its.at in
            one_instruction_lem (be_number w.lifted.section.bytes at) y w.lifted.x (subst (λ v. Decodes v y) word_is decodes) w.lifted.here.decodes

        judged : IsOnHint os w.extent.x.object r → ⊥
        judged (t, y, is, hint) = true≢false (sym hint ∙ ap (λ (z : Inst). is_hint z.op) (same t y is.section is.decodes) ∙ plain)

        code_fits : (what : SecKind) → what ≡ kinds.Code → FitsIn what w.lifted.section r → FitsIn kinds.Code w.lifted.section r
        code_fits what is fits = subst (λ k. FitsIn k w.lifted.section r) is fits

        unfit : has_kind w.lifted.x.op ≡ false → FitsIn kinds.Code w.lifted.section r → ⊥
        unfit bad (k, number, y, decodes, fits) =
            true≢false (sym (fit_has_kind k w.lifted.x.op (subst (λ (z : Inst). fits_on k z.op ≡ true) (same w.lifted.section y within decodes) fits)) ∙ bad)

    indirect : (m : Option Meaning) → field ≡ m → (MayGo os (row_of w.lifted.x.op).kind w.extent.x m → ⊥) → is_direct (row_of w.lifted.x.op).kind ≡ false
    indirect m is never = false_from_ne_true (is_direct (row_of w.lifted.x.op).kind) (λ direct. astray (direct, λ may. never (subst (MayGo os (row_of w.lifted.x.op).kind w.extent.x) is may)))

    -- where its field isn't that of a branch by a distance, a relocation stands on it
    on_reloc : (m : Meaning) → field ≡ Some m → is_direct (row_of w.lifted.x.op).kind ≡ false → (r : Reloc) × (reloc_on os w.extent.x.object w.extent.x.section at ≡ Some r) × (meaning_of os w.extent.x.object r ≡ m)
    on_reloc m is indirect = by (reloc_on os w.extent.x.object w.extent.x.section at) refl is
      where
        some_one : (a b : Meaning) → Some a ≡ Some b → a ≡ b
        some_one a b e = cc

        by : (o : Option Reloc) → reloc_on os w.extent.x.object w.extent.x.section at ≡ o → field_by os w.extent.x.object w.extent.x.section at w.lifted.x o ≡ Some m → (r : Reloc) × (reloc_on os w.extent.x.object w.extent.x.section at ≡ Some r) × (meaning_of os w.extent.x.object r ≡ m)
        by None on found = absurd (let none : is_relative w.lifted.x.op ≡ false = rw indirect refl in let bad : None ≡ Some m = rw none at found in cc)
        by (Some r) on found = (r, on, some_one (meaning_of os w.extent.x.object r) m found)

    -- the operand of an instruction at a place of code
    at_place : (what : Kind) (n k : ℕ) (offset : ℤ) (g j : ℕ) → (row_of w.lifted.x.op).kind ≡ what → field ≡ Some (Code n k offset) → IsPlaceAt os fs n k offset g j → (o : Operand) → o ≡ operand_to what f g j → s.operand ≡ o → s.inst.op ≡ w.lifted.x.op → IsOperand p f s o
    at_place what n k offset g j kind_is is place o o_is s_is op_is = by what kind_is o_is
      where
        its_kind : (a : Kind) → (row_of w.lifted.x.op).kind ≡ a → kind_of s ≡ a
        its_kind a e = ap (λ y. (row_of y).kind) op_is ∙ e

        address : is_direct (row_of w.lifted.x.op).kind ≡ false → o ≡ operand.Address (label_of g j) → IsOperand p f s o
        address indirect a =
            let r = on_reloc (Code n k offset) is indirect in
            let label : takes_label w.lifted.x.op ≡ true = label_op w.lifted.x.op (fitting r.0 r.1) indirect (λ t. reads (t, subst (NamesCode w.lifted.x.op) (sym is) tt)) in
            subst (IsOperand p f s) (sym a)
            (ap takes_label op_is ∙ label, target_taken n k offset g j place (inr (record { f = f; i = i; x = s; there = there; is = s_is ∙ a })))

        by : (a : Kind) → (row_of w.lifted.x.op).kind ≡ a → o ≡ operand_to a f g j → IsOperand p f s o
        by kind.Call e a = subst (IsOperand p f s) (sym a) (its_kind kind.Call e, callee g place.x place.number)
        by kind.Branch e a = elim (cases_Bool (g == f)) [
          | inl own ↦
              let same : g ≡ f = eqb-true g f own in
              let branch : (if g == f then operand.Branch j else operand.Jump g) ≡ operand.Branch j = rw own refl in
              subst (IsOperand p f s) (sym (a ∙ branch)) (its_kind kind.Branch e, subst (λ m. IsPlace p m j) same (place_there n k offset g j place))
          | inr other ↦
              let jump : (if g == f then operand.Branch j else operand.Jump g) ≡ operand.Jump g = rw other refl in
              subst (IsOperand p f s) (sym (a ∙ jump)) (its_kind kind.Branch e, callee g place.x place.number, eqb-false g f other)
        ]
        by kind.Compute e a = address (ap is_direct e) a
        by kind.Load e a = address (ap is_direct e) a
        by kind.Store e a = address (ap is_direct e) a
        by kind.Indirect e a = address (ap is_direct e) a
        by kind.PointerCall e a = address (ap is_direct e) a
        by kind.HaltTest e a = address (ap is_direct e) a
        by kind.ChannelOp e a = address (ap is_direct e) a
        by kind.StopOp e a = address (ap is_direct e) a
        by kind.Nothing e a = address (ap is_direct e) a

    stands_by : (m : Option Meaning) → field ≡ m → (o : Operand) → IsOperandOf os fs f (row_of w.lifted.x.op).kind m o → s.operand ≡ o → s.inst.op ≡ w.lifted.x.op → IsOperand p f s o
    stands_by None is o o_is s_is op_is = subst (IsOperand p f s) (sym o_is) (ap needs_operand op_is ∙
        plain_op w.lifted.x.op (λ takes needs. reads (takes, subst (NamesCode w.lifted.x.op) (sym is) needs)) (λ direct. astray (direct, λ may. subst (MayGo os (row_of w.lifted.x.op).kind w.extent.x) is may)))
    stands_by (Some (Number v)) is o o_is s_is op_is =
        let indirect = indirect (Some (Number v)) is (λ may. may) in
        let r = on_reloc (Number v) is indirect in
        subst (IsOperand p f s) (sym o_is) (ap takes_number op_is ∙ number_op w.lifted.x.op (fitting r.0 r.1) indirect, number_small os w.extent.x.object r.0 v r.2)
    stands_by (Some (Code n k offset)) is o (g, j, place, o_is) s_is op_is = at_place (row_of w.lifted.x.op).kind n k offset g j refl is place o o_is s_is op_is
    stands_by (Some Unknown) is o o_is s_is op_is = absurd o_is

    pub word_formed : (o : Operand) → IsOperandOf os fs f (row_of w.lifted.x.op).kind field o → s ≡ with_operand w.lifted.x o → IsInstruction p f s
    word_formed o o_is is =
        let parts = with_is w.lifted.x o in
        let operand_is : s.operand ≡ o = ap (λ (y : SymInst). y.operand) is ∙ parts.0 in
        let op_is : s.inst.op ≡ w.lifted.x.op = ap (λ (y : SymInst). y.inst.op) is ∙ parts.1 in
        let rt_is : s.inst.rt ≡ w.lifted.x.rt = ap (λ (y : SymInst). y.inst.rt) is ∙ parts.2 in
        record {
          range = subst (λ (y : SymInst). InRange y.inst) (sym is) (with_range w.lifted.x o (in_range_from_Decodes (be_number w.lifted.section.bytes at) w.lifted.x w.lifted.here.decodes));
          stands = subst (IsOperand p f s) (sym operand_is) (stands_by field refl o o_is operand_is op_is);
          empty = λ ne. subst (λ (y : SymInst). y.operand ≢ operand.Plain → y.inst.imm ≡ pos 0) (sym is) (with_empty w.lifted.x o) ne;
          call = λ c. rt_is ∙ link_is (inl (sym (ap (λ y. (row_of y).kind) op_is) ∙ c));
          pointer_call = λ c. rt_is ∙ link_is (inr (sym (ap (λ y. (row_of y).kind) op_is) ∙ c));
        }

  lnop_formed : (f : ℕ) → IsInstruction p f (symbolic (of_register op.Lnop 0 (pos 0)) operand.Plain)
  lnop_formed f = record {
    range = record { layout = (lit< tt, lit< tt, lit< tt, refl, refl); zeros = (refl, (refl, (refl, tt))) };
    stands = refl;
    empty = λ e. absurd (e refl);
    call = λ e. absurd (cc);
    pointer_call = λ e. absurd (cc);
  }

  start_formed : (i : ℕ) (x : SymInst) → slice_get (start_code p.data_end p.entry).code i ≡ Some x → IsInstruction p 0 x
  start_formed zero x e = let is : symbolic (of_register op.Lqr 1 (pos 0)) (operand.Number (p.data_end % 2 ^ 32)) ≡ x = cc in subst (IsInstruction p 0) is (lqr_formed p (p.data_end % 2 ^ 32) (omega arith))
  start_formed (suc zero) x e = let is : symbolic (of_register op.Brsl 0 (pos 0)) (operand.Call p.entry) ≡ x = cc in subst (IsInstruction p 0) is (brsl_formed p p.entry (callee p.entry program.extent program.entry))
  start_formed (suc (suc zero)) x e = let is : symbolic (of_register op.Stop 0 (pos 0x2000)) operand.Plain ≡ x = cc in subst (IsInstruction p 0) is (stop_formed p)
  start_formed (suc (suc (suc i))) x e = absurd (cc)

  pub instruction_formed : (f i : ℕ) (s : SymInst) → instruction_at p f i ≡ Some s → IsInstruction p f s
  instruction_formed f i s there = by (word_in f i s there)
    where
      lifted : (w : IsWordIn f i s) (hint : Bool) → is_hint w.lifted.x.op ≡ hint → IsLiftedAs hint os fs f w.extent.x.object w.extent.x.section (w.extent.x.offset + WORD_SIZE * i) w.lifted.x s → IsInstruction p f s
      lifted w true is at = subst (IsInstruction p f) (sym at) (lnop_formed f)
      lifted w false is (o, o_is, at) = word_formed f i s there w is o o_is at

      by : (slice_get (start_code p.data_end p.entry).code i ≡ Some s) × (f ≡ 0) ⊎ IsWordIn f i s → IsInstruction p f s
      by (inl start) = subst (λ m. IsInstruction p m s) (sym start.1) (start_formed i s start.0)
      by (inr w) = lifted w (is_hint w.lifted.x.op) refl w.lifted.lifted
