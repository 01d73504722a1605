-- The program that objects stand for, by one condition for each word of code and data, and for each list. (This project's own; the
-- operands are those of the SPU ABI's relocations.)
use Rattle.std.specs.Prelude.{◌≡◌, ℕ, ◌+◌, ◌*◌, ◌<◌, ◌⊎◌, Bool, true, false, ◌&&◌, ◌==◌, if◌then◌else◌, nat_lt, List, length, take, drop, map, filter, codes, Option, Some, None, slice_get, ℤ, pos}
use Rattle.std.specs.List.{Contains, filter_map, flat_map, enumerate_from}
use Rattle.std.specs.Option.{option_and_then, option_map}
use Rattle.std.specs.Str.{bytes_eq}
use Rattle.spu_word.specs.declared.limits.TheConstants.{WORD_SIZE}
use Rattle.spu_word.specs.Bytes.{be_digits}
use Rattle.spu_isa.specs.declared.operation.Kind.{Kind}
use Rattle.spu_isa.specs.declared.operation.Kind.TheVariants as kind
use Rattle.spu_isa.specs.declared.operation.Op.TheVariants as op
use Rattle.spu_isa.specs.declared.instruction.Inst.{Inst}
use Rattle.spu_isa.specs.Table.{row_of}
use Rattle.spu_elf.specs.declared.objects.Section.{Section}
use Rattle.spu_elf.specs.declared.objects.Symbol.{Symbol}
use Rattle.spu_elf.specs.declared.objects.Reloc.{Reloc}
use Rattle.spu_elf.specs.declared.objects.Object.{Object}
use Rattle.spu_lift.specs.declared.program.Label.{Label}
use Rattle.spu_lift.specs.declared.program.Label.TheVariants.{Fun, Place}
use Rattle.spu_lift.specs.declared.program.Operand.{Operand}
use Rattle.spu_lift.specs.declared.program.Operand.TheVariants as operand
use Rattle.spu_lift.specs.declared.program.SymInst.{SymInst}
use Rattle.spu_lift.specs.declared.program.Function.{Function}
use Rattle.spu_lift.specs.declared.program.WordLabel.{WordLabel}
use Rattle.spu_lift.specs.declared.program.Part.{Part}
use Rattle.spu_lift.specs.declared.program.Ear.{Ear}
use Rattle.spu_lift.specs.declared.program.Global_.{Global_}
use Rattle.spu_lift.specs.declared.program.Prog.{Prog}
use Rattle.spu_lift.specs.Places.{instruction_at}
use Rattle.spu_lift.specs.StartCode.{start_code, symbolic, of_register}
use Rattle.spu_lift.specs.WellFormed.{IsRising}
use Rattle.spu_lift.specs.Tables.{DataPlace, all_sections, code_number, data_address, data_end_of, data_place, holds_code, holds_data, reloc_on, section_at, sections_before}
use Rattle.spu_lift.specs.Extents.{Extent, IsFunctionSymbol, IsNumbering, IsWordAt, extent_name, extent_of, is_global, label_of}
use Rattle.spu_lift.specs.declared.tables.Meaning.{Meaning}
use Rattle.spu_lift.specs.declared.tables.Meaning.TheVariants.{Number, Code, Unknown}
use Rattle.spu_lift.specs.Meanings.{IsInstructionAt, field_of, is_hint, meaning_of}

-- a place of code is word j of function f
pub record IsPlaceAt (os : List Object) (fs : List Extent) (n k : ℕ) (offset : ℤ) (f j : ℕ) : Type 0 where
  pub x : Extent
  pub number : extent_of fs f ≡ Some x
  pub word : IsWordAt os x j n k offset

-- ---- words of code

-- the operand that a place of code is to an instruction of function f: word j of function g
abbrev pub operand_to : Kind → ℕ → ℕ → ℕ → Operand
operand_to kind.Call f g j = operand.Call g
operand_to kind.Branch f g j = if g == f then operand.Branch j else operand.Jump g
operand_to _ f g j = operand.Address (label_of g j)

abbrev pub IsOperandOf : List Object → List Extent → ℕ → Kind → Option Meaning → Operand → Type 0
IsOperandOf os fs f what None o = o ≡ operand.Plain
IsOperandOf os fs f what (Some (Number v)) o = o ≡ operand.Number v
IsOperandOf os fs f what (Some (Code n k offset)) o = (g j : ℕ) × IsPlaceAt os fs n k offset g j × (o ≡ operand_to what f g j)
IsOperandOf os fs f what (Some Unknown) o = ⊥

-- where an operand stands for the field, the field is 0
abbrev pub with_operand : Inst → Operand → SymInst
with_operand x operand.Plain = symbolic x operand.Plain
with_operand x o = symbolic (record x { imm = pos 0 }) o

-- the instruction x at an offset of section k is lifted as s; a hint as an `lnop`
abbrev pub IsLiftedAs : Bool → List Object → List Extent → ℕ → ℕ → ℕ → ℕ → Inst → SymInst → Type 0
IsLiftedAs true os fs f n k offset x s = s ≡ symbolic (of_register op.Lnop 0 (pos 0)) operand.Plain
IsLiftedAs false os fs f n k offset x s = (o : Operand) × IsOperandOf os fs f (row_of x.op).kind (field_of os n k offset x) o × (s ≡ with_operand x o)

pub record IsLiftedWord (os : List Object) (fs : List Extent) (f n k offset : ℕ) (s : SymInst) : Type 0 where
  pub section : Section
  pub x : Inst
  pub here : IsInstructionAt os n k offset section x
  pub lifted : IsLiftedAs (is_hint x.op) os fs f n k offset x s

-- function f, of extent x; what is taken is said below
pub record IsFunctionOf (os : List Object) (fs : List Extent) (f : ℕ) (x : Extent) (g : Function) : Type 0 where
  pub name : g.name ≡ extent_name os x
  pub global : g.global ≡ is_global os x
  pub section : g.section ≡ code_number os x.object x.section
  pub offset : g.offset ≡ x.offset
  pub size : WORD_SIZE * length g.code ≡ x.size
  pub words : (i : ℕ) (s : SymInst) → slice_get g.code i ≡ Some s → IsLiftedWord os fs f x.object x.section (x.offset + WORD_SIZE * i) s

-- ---- data

-- the four bytes of a word of data: those of the section, or where a relocation stands those of its number, and zeros where it stands for a label
abbrev pub number_in : Meaning → ℕ
number_in (Number v) = v
number_in _ = 0

abbrev pub word_of_data : List Object → ℕ → List ℕ → ℕ → Option Reloc → List ℕ
word_of_data os n bytes offset None = take WORD_SIZE (drop offset bytes)
word_of_data os n bytes offset (Some r) = be_digits (number_in (meaning_of os n r))

abbrev pub IsLabelOf : List Object → List Extent → Meaning → Label → Type 0
IsLabelOf os fs (Number v) l = ⊥
IsLabelOf os fs (Code n k offset) l = (g j : ℕ) × IsPlaceAt os fs n k offset g j × (l ≡ label_of g j)
IsLabelOf os fs Unknown l = ⊥

-- a label stands in section k of object n
abbrev pub IsWordLabel : List Object → List Extent → ℕ → ℕ → WordLabel → Type 0
IsWordLabel os fs n k l = (r : Reloc) × (reloc_on os n k l.offset ≡ Some r) × IsLabelOf os fs (meaning_of os n r) l.label

pub record IsPartOf (os : List Object) (fs : List Extent) (n k : ℕ) (t : Section) (part : Part) : Type 0 where
  pub address : part.address ≡ data_address os n k t
  pub size : part.size ≡ t.size
  pub count : length part.bytes ≡ length t.bytes
  pub bytes : (i : ℕ) → WORD_SIZE * i < length t.bytes → take WORD_SIZE (drop (WORD_SIZE * i) part.bytes) ≡ word_of_data os n t.bytes (WORD_SIZE * i) (reloc_on os n k (WORD_SIZE * i))
  pub rising : IsRising (map (λ l. l.offset) part.labels)
  pub labels : (l : WordLabel) → Contains part.labels l → IsWordLabel os fs n k l
  pub all : (l : WordLabel) → IsWordLabel os fs n k l → Contains part.labels l

-- the part of section k of object n is that of its number among the sections of data
pub record HasPart (os : List Object) (fs : List Extent) (parts : List Part) (n k : ℕ) (t : Section) : Type 0 where
  pub part : Part
  pub there : slice_get parts (length (filter holds_data (sections_before os n k))) ≡ Some part
  pub is : IsPartOf os fs n k t part

-- ---- global symbols of data

abbrev pub global_at : Symbol → DataPlace → Global_
global_at s d = record { name = s.name; address = d.address; size = s.size }

abbrev pub global_of : List Object → ℕ → Symbol → Option Global_
global_of os n s = if s.global then option_map (global_at s) (data_place os n s) else None

-- a named area's quadword is a global symbol in a section of data named `.toe`, whose name is `_EAR_` and the area's
abbrev pub prefix_size : ℕ
prefix_size = length (codes "_EAR_")

abbrev pub is_ear_name : List ℕ → Bool
is_ear_name name = nat_lt prefix_size (length name) && bytes_eq (take prefix_size name) (codes "_EAR_")

abbrev pub ear_place : List Object → ℕ → Symbol → Option DataPlace
ear_place os n s = if s.global && is_ear_name s.name then option_and_then (λ d. if bytes_eq d.section.name (codes ".toe") then Some d else None) (data_place os n s) else None

abbrev pub ear_at : Symbol → DataPlace → Ear
ear_at s d = record { name = drop prefix_size s.name; address = d.address }

abbrev pub ear_of : List Object → ℕ → Symbol → Option Ear
ear_of os n s = option_map (ear_at s) (ear_place os n s)

-- what stands for symbols, in order of objects and symbols
abbrev pub of_symbols : {X : Type 0} → (ℕ → Symbol → Option X) → List Object → List X
of_symbols what os = flat_map (λ (n, o). filter_map (what n) o.symbols) (enumerate_from 0 os)

-- ---- programs

-- a label stands in data, or in an instruction
pub record StandsInData (p : Prog) (l : Label) : Type 0 where
  pub part : Part
  pub there : Contains p.parts part
  pub word : WordLabel
  pub inside : Contains part.labels word
  pub is : word.label ≡ l

pub record StandsInCode (p : Prog) (l : Label) : Type 0 where
  pub f : ℕ
  pub i : ℕ
  pub x : SymInst
  pub there : instruction_at p f i ≡ Some x
  pub is : x.operand ≡ operand.Address l

abbrev pub Stands : Prog → Label → Type 0
Stands p l = StandsInData p l ⊎ StandsInCode p l

-- the rising list of the numbers at which a label stands
pub record AreTaken (p : Prog) (label : ℕ → Label) (taken : List ℕ) : Type 0 where
  pub rising : IsRising taken
  pub each : (n : ℕ) → Contains taken n → Stands p (label n)
  pub all : (n : ℕ) → Stands p (label n) → Contains taken n

-- the function of a global symbol with the entry's name
pub record IsEntry (os : List Object) (name : List ℕ) (x : Extent) : Type 0 where
  pub j : ℕ
  pub symbol : Symbol
  pub section : Section
  pub function : IsFunctionSymbol os x j symbol section
  pub global : symbol.global ≡ true
  pub named : symbol.name ≡ name

pub record IsProgramOf (os : List Object) (name : List ℕ) (p : Prog) : Type 0 where
  pub fs : List Extent
  pub numbering : IsNumbering os fs
  -- code
  pub start : slice_get p.functions 0 ≡ Some (start_code p.data_end p.entry)
  pub count : length p.functions ≡ length fs + 1
  pub functions : (f : ℕ) (x : Extent) (g : Function) → extent_of fs f ≡ Some x → slice_get p.functions f ≡ Some g → IsFunctionOf os fs f x g
  pub places : (f : ℕ) (g : Function) → slice_get p.functions f ≡ Some g → AreTaken p (λ i. Place f i) g.taken
  pub code : p.code ≡ map (λ (t : Section). record { name = t.name; size = t.size }) (filter holds_code (all_sections os))
  pub taken : AreTaken p Fun p.taken
  pub extent : Extent
  pub named : IsEntry os name extent
  pub entry : extent_of fs p.entry ≡ Some extent
  -- data
  pub part_count : length p.parts ≡ length (filter holds_data (all_sections os))
  pub parts : (n k : ℕ) (t : Section) → section_at os n k ≡ Some t → holds_data t ≡ true → HasPart os fs p.parts n k t
  pub ears : p.ears ≡ of_symbols (ear_of os) os
  pub globals : p.globals ≡ of_symbols (global_of os) os
  pub data_end : p.data_end ≡ data_end_of os
