-- What is wrong with objects that stand for no program: each fault's condition, with its place, and the least fault at its first place.
-- (This project's own.)
use Rattle.std.specs.Prelude.{◌≡◌, ◌≢◌, ℕ, ◌+◌, ◌*◌, ◌%◌, ◌<◌, ◌≤◌, ◌⊎◌, Bool, true, false, ◌&&◌, not, List, [], ◌∷◌, codes, nat_eq, Option, Some, None}
use Rattle.std.specs.List.{starts_with}
use Rattle.spu_word.specs.declared.limits.TheConstants.{QUAD_SIZE, WORD_SIZE}
use Rattle.spu_word.specs.Bytes.{be_number}
use Rattle.spu_isa.specs.declared.operation.Kind.{Kind}
use Rattle.spu_isa.specs.declared.operation.Kind.TheVariants as kind
use Rattle.spu_isa.specs.declared.operation.Op.{Op}
use Rattle.spu_isa.specs.declared.operation.Op.TheVariants as op
use Rattle.spu_isa.specs.declared.instruction.Inst.{Inst}
use Rattle.spu_isa.specs.Table.{Decodes, row_of}
use Rattle.spu_elf.specs.declared.objects.SecKind.{SecKind}
use Rattle.spu_elf.specs.declared.objects.SecKind.TheVariants as kinds
use Rattle.spu_elf.specs.declared.objects.Section.{Section}
use Rattle.spu_elf.specs.declared.objects.SymKind.TheVariants as names
use Rattle.spu_elf.specs.declared.objects.Symbol.{Symbol}
use Rattle.spu_elf.specs.declared.objects.Reloc.{Reloc}
use Rattle.spu_elf.specs.declared.objects.Object.{Object}
use Rattle.spu_reloc.specs.declared.field.RelocKind.{RelocKind}
use Rattle.spu_reloc.specs.declared.field.RelocKind.TheVariants.{Addr32}
use Rattle.spu_reloc.specs.Fields.{fits_on, number_of}
use Rattle.spu_lift.specs.declared.program.TheConstants.{MAX_ALIGN}
use Rattle.spu_lift.specs.declared.program.Prog.{Prog}
use Rattle.spu_lift.specs.declared.fault.LiftKind.{LiftKind}
use Rattle.spu_lift.specs.declared.fault.LiftKind.TheVariants.{DuplicateSymbol, UndefinedSymbol, ReservedName, NoEntry, Misaligned, CodeOutsideFunction, FunctionOverlap, UnknownInstruction, BadRelocation, BadTarget, CodeAddend, LinkRegister, ReadsCode}
use Rattle.spu_lift.specs.declared.fault.LiftFault.{LiftFault}
use Rattle.spu_lift.specs.declared.fault.LiftFault.TheVariants as faults
use Rattle.spu_lift.specs.Places.{link_register}
use Rattle.spu_lift.specs.WellFormed.{is_direct, needs_operand, takes_label, takes_number}
use Rattle.spu_lift.specs.Tables.{DataPlace, Definition, definition_of, is_definition, numbered, reloc_at, section_at, symbol_at, target_of}
use Rattle.spu_lift.specs.Extents.{Extent, Holds, IsEarlier, IsExtent, IsFunctionSymbol, IsWordAt, extent_name}
use Rattle.spu_lift.specs.declared.tables.Meaning.{Meaning}
use Rattle.spu_lift.specs.declared.tables.Meaning.TheVariants.{Number, Code, Unknown}
use Rattle.spu_lift.specs.Meanings.{IsOnHint, field_of, meaning_of}
use Rattle.spu_lift.specs.Lifted.{IsEntry, IsProgramOf, ear_place}

abbrev pub kind_number : LiftKind → ℕ
kind_number DuplicateSymbol = 1
kind_number UndefinedSymbol = 2
kind_number ReservedName = 3
kind_number NoEntry = 4
kind_number Misaligned = 5
kind_number CodeOutsideFunction = 6
kind_number FunctionOverlap = 7
kind_number UnknownInstruction = 8
kind_number BadRelocation = 9
kind_number BadTarget = 10
kind_number CodeAddend = 11
kind_number LinkRegister = 12
kind_number ReadsCode = 13

-- ---- of symbols: by object and symbol

pub record OfSymbol (os : List Object) (kind : LiftKind) (faulty : ℕ → ℕ → Symbol → Type 0) (place : List ℕ) (fault : LiftFault) : Type 0 where
  pub n : ℕ
  pub j : ℕ
  pub symbol : Symbol
  pub there : symbol_at os n j ≡ Some symbol
  pub definition : is_definition symbol ≡ true
  pub bad : faulty n j symbol
  pub at : place ≡ n ∷ j ∷ []
  pub told : fault ≡ faults.Symbol kind symbol.name

-- L1: another global definition is the first of its name
abbrev pub IsDuplicate : List Object → ℕ → ℕ → Symbol → Type 0
IsDuplicate os n j s = definition_of os s.name ≢ Some (numbered n j s)

-- L3: the names of the start code and of the image's own symbols
abbrev pub IsReserved : List ℕ → Type 0
IsReserved name = (name ≡ codes "_start") ⊎ ((name ≡ codes "__image_ea") ⊎ (starts_with nat_eq name (codes "__stack_") ≡ true))

-- ---- L4: of no place

pub record HasNoEntry (os : List Object) (entry : List ℕ) (place : List ℕ) (fault : LiftFault) : Type 0 where
  pub none : (x : Extent) → IsEntry os entry x → ⊥
  pub at : place ≡ []
  pub told : fault ≡ faults.NoEntry

-- ---- of relocations: by object, section and offset, and at one offset by their order

pub record OfReloc (os : List Object) (faulty : ℕ → ℕ → Reloc → Section → Type 0) (tells : ℕ → Reloc → Section → LiftFault → Type 0) (place : List ℕ) (fault : LiftFault) : Type 0 where
  pub n : ℕ
  pub i : ℕ
  pub reloc : Reloc
  pub there : reloc_at os n i ≡ Some reloc
  pub judged : IsOnHint os n reloc → ⊥
  pub section : Section
  pub in_section : section_at os n reloc.section ≡ Some section
  pub bad : faulty n i reloc section
  pub at : place ≡ n ∷ reloc.section ∷ reloc.offset ∷ i ∷ []
  pub told : tells n reloc section fault

-- L2: no object defines the symbol
abbrev pub TellsSymbol : List Object → LiftKind → ℕ → Reloc → Section → LiftFault → Type 0
TellsSymbol os kind n r t fault = (s : Symbol) × (symbol_at os n r.symbol ≡ Some s) × (fault ≡ faults.Symbol kind s.name)

abbrev pub TellsSite : LiftKind → ℕ → Reloc → Section → LiftFault → Type 0
TellsSite kind n r t fault = fault ≡ faults.Site kind n t.name r.offset

-- L9: a relocation fits where its kind may stand on the instruction, and on data where it is that of an address
abbrev pub FitsIn : SecKind → Section → Reloc → Type 0
FitsIn kinds.Code t r = (kind : RelocKind) × (number_of kind ≡ r.kind) × (x : Inst) × Decodes (be_number t.bytes r.offset) x × (fits_on kind x.op ≡ true)
FitsIn _ t r = r.kind ≡ number_of Addr32

-- an earlier relocation of the section stands at its word
pub record IsSecond (os : List Object) (n i : ℕ) (r : Reloc) : Type 0 where
  pub m : ℕ
  pub other : Reloc
  pub there : reloc_at os n m ≡ Some other
  pub earlier : m < i
  pub section : other.section ≡ r.section
  pub offset : other.offset ≡ r.offset

abbrev pub IsBadReloc : List Object → ℕ → ℕ → Reloc → Section → Type 0
IsBadReloc os n i r t = (r.offset % WORD_SIZE ≢ 0) ⊎ (IsSecond os n i r ⊎ (FitsIn t.kind t r → ⊥))

-- L11: a function with an addend, or an address of code that isn't that of a word of a function
abbrev pub HasAddend : Reloc → Option Definition → Type 0
HasAddend r None = ⊥
HasAddend r (Some d) = (d.symbol.kind ≡ names.Function) × (r.addend ≢ Rattle.std.specs.Prelude.pos 0)

abbrev pub IsAstray : List Object → Meaning → Type 0
IsAstray os (Number v) = ⊥
IsAstray os (Code n k offset) = (x : Extent) (j : ℕ) → IsWordAt os x j n k offset → ⊥
IsAstray os Unknown = ⊥

abbrev pub IsBadAddend : List Object → ℕ → ℕ → Reloc → Section → Type 0
IsBadAddend os n i r t = HasAddend r (target_of os n r) ⊎ IsAstray os (meaning_of os n r)

-- ---- L5: by object; in it sections come first, then functions, then the quadwords of named areas

abbrev pub IsMisalignedSection : Section → Type 0
IsMisalignedSection t = (MAX_ALIGN < t.align) ⊎ ((t.kind ≡ kinds.Code) × (t.size % WORD_SIZE ≢ 0))

pub record OfSection (os : List Object) (place : List ℕ) (fault : LiftFault) : Type 0 where
  pub n : ℕ
  pub k : ℕ
  pub section : Section
  pub there : section_at os n k ≡ Some section
  pub bad : IsMisalignedSection section
  pub at : place ≡ n ∷ 0 ∷ k ∷ []
  pub told : fault ≡ faults.Site Misaligned n section.name 0

pub record OfFunction (os : List Object) (place : List ℕ) (fault : LiftFault) : Type 0 where
  pub x : Extent
  pub j : ℕ
  pub symbol : Symbol
  pub section : Section
  pub there : IsFunctionSymbol os x j symbol section
  pub bad : (x.offset % WORD_SIZE ≢ 0) ⊎ (x.size % WORD_SIZE ≢ 0)
  pub at : place ≡ x.object ∷ 1 ∷ j ∷ []
  pub told : fault ≡ faults.Site Misaligned x.object section.name x.offset

pub record OfEar (os : List Object) (place : List ℕ) (fault : LiftFault) : Type 0 where
  pub n : ℕ
  pub j : ℕ
  pub symbol : Symbol
  pub there : symbol_at os n j ≡ Some symbol
  pub lies : DataPlace
  pub ear : ear_place os n symbol ≡ Some lies
  pub bad : (symbol.value % QUAD_SIZE ≢ 0) ⊎ (lies.section.size < symbol.value + QUAD_SIZE)
  pub at : place ≡ n ∷ 2 ∷ j ∷ []
  pub told : fault ≡ faults.Site Misaligned n lies.section.name symbol.value

-- ---- of words of sections of code: by object, section and offset

pub record OfCode (os : List Object) (kind : LiftKind) (faulty : ℕ → ℕ → ℕ → ℕ → Type 0) (place : List ℕ) (fault : LiftFault) : Type 0 where
  pub n : ℕ
  pub k : ℕ
  pub i : ℕ
  pub section : Section
  pub there : section_at os n k ≡ Some section
  pub code : section.kind ≡ kinds.Code
  pub inside : WORD_SIZE * i + WORD_SIZE ≤ section.size
  pub bad : faulty n k (WORD_SIZE * i) (be_number section.bytes (WORD_SIZE * i))
  pub at : place ≡ n ∷ k ∷ (WORD_SIZE * i) ∷ []
  pub told : fault ≡ faults.Site kind n section.name (WORD_SIZE * i)

-- L6: a word in no function is 0, an `lnop` or a `nop`
abbrev pub is_filler : Op → Bool
is_filler op.Lnop = true
is_filler op.Nop = true
is_filler _ = false

abbrev pub IsFiller : ℕ → Type 0
IsFiller w = (w ≡ 0) ⊎ ((x : Inst) × Decodes w x × (is_filler x.op ≡ true))

abbrev pub IsOutside : List Object → ℕ → ℕ → ℕ → ℕ → Type 0
IsOutside os n k offset w = ((x : Extent) → IsExtent os x → Holds x n k offset → ⊥) × (IsFiller w → ⊥)

-- L7: two extents hold the word
pub record IsShared (os : List Object) (n k offset w : ℕ) : Type 0 where
  pub x : Extent
  pub y : Extent
  pub one : IsExtent os x
  pub other : IsExtent os y
  pub in_one : Holds x n k offset
  pub in_other : Holds y n k offset
  pub apart : x ≢ y

-- ---- of words of functions: by object, section and offset

pub record OfWord (os : List Object) (kind : LiftKind) (faulty : Extent → ℕ → ℕ → Type 0) (place : List ℕ) (fault : LiftFault) : Type 0 where
  pub x : Extent
  pub j : ℕ
  pub extent : IsExtent os x
  pub inside : WORD_SIZE * j < x.size
  pub section : Section
  pub there : section_at os x.object x.section ≡ Some section
  pub bad : faulty x (x.offset + WORD_SIZE * j) (be_number section.bytes (x.offset + WORD_SIZE * j))
  pub at : place ≡ x.object ∷ x.section ∷ (x.offset + WORD_SIZE * j) ∷ []
  pub told : fault ≡ faults.Word kind (extent_name os x) (WORD_SIZE * j)

-- L8: the word decodes to no instruction
abbrev pub IsUnknown : Extent → ℕ → ℕ → Type 0
IsUnknown x offset w = (y : Inst) → Decodes w y → ⊥

-- the word decodes to an instruction of this kind, and what stands for its field is such
abbrev pub IsWrong : List Object → (Extent → Inst → Option Meaning → Type 0) → Extent → ℕ → ℕ → Type 0
IsWrong os wrong x offset w = (y : Inst) × Decodes w y × wrong x y (field_of os x.object x.section offset y)

-- L10: a call may go to the start of a function, a branch also to a word of its own function
abbrev pub MayGo : List Object → Kind → Extent → Option Meaning → Type 0
MayGo os what x (Some (Code n k offset)) = (y : Extent) × (j : ℕ) × IsWordAt os y j n k offset × ((j ≡ 0) ⊎ ((what ≡ kind.Branch) × (y ≡ x)))
MayGo os what x _ = ⊥

abbrev pub GoesAstray : List Object → Extent → Inst → Option Meaning → Type 0
GoesAstray os x y field = (is_direct (row_of y.op).kind ≡ true) × (MayGo os (row_of y.op).kind x field → ⊥)

-- L12: a call leaves its link in another register than the link register
abbrev pub LinksOtherwise : Extent → Inst → Option Meaning → Type 0
LinksOtherwise x y field = (((row_of y.op).kind ≡ kind.Call) ⊎ ((row_of y.op).kind ≡ kind.PointerCall)) × (y.rt ≢ link_register)

-- L13: a load or store at a fixed place names code; one by a distance must name something
abbrev pub NamesCode : Op → Option Meaning → Type 0
NamesCode o None = needs_operand o ≡ true
NamesCode o (Some (Number v)) = ⊥
NamesCode o (Some (Code n k offset)) = Unit {0}
NamesCode o (Some Unknown) = ⊥

abbrev pub ReadsOfCode : Extent → Inst → Option Meaning → Type 0
ReadsOfCode x y field = ((takes_number y.op && not (takes_label y.op)) ≡ true) × NamesCode y.op field

-- ---- the fault

-- a fault of a kind is shown at a place, and told so
abbrev pub Shows : LiftKind → List Object → List ℕ → List ℕ → LiftFault → Type 0
Shows DuplicateSymbol os entry place fault = OfSymbol os DuplicateSymbol (IsDuplicate os) place fault
Shows UndefinedSymbol os entry place fault = OfReloc os (λ n i r t. target_of os n r ≡ None) (TellsSymbol os UndefinedSymbol) place fault
Shows ReservedName os entry place fault = OfSymbol os ReservedName (λ n j s. IsReserved s.name) place fault
Shows NoEntry os entry place fault = HasNoEntry os entry place fault
Shows Misaligned os entry place fault = OfSection os place fault ⊎ (OfFunction os place fault ⊎ OfEar os place fault)
Shows CodeOutsideFunction os entry place fault = OfCode os CodeOutsideFunction (IsOutside os) place fault
Shows FunctionOverlap os entry place fault = OfCode os FunctionOverlap (IsShared os) place fault
Shows UnknownInstruction os entry place fault = OfWord os UnknownInstruction IsUnknown place fault
Shows BadRelocation os entry place fault = OfReloc os (IsBadReloc os) (TellsSite BadRelocation) place fault
Shows BadTarget os entry place fault = OfWord os BadTarget (IsWrong os (GoesAstray os)) place fault
Shows CodeAddend os entry place fault = OfReloc os (IsBadAddend os) (TellsSite CodeAddend) place fault
Shows LinkRegister os entry place fault = OfWord os LinkRegister (IsWrong os LinksOtherwise) place fault
Shows ReadsCode os entry place fault = OfWord os ReadsCode (IsWrong os ReadsOfCode) place fault

-- the first place at which a kind is shown
pub record IsFirst (kind : LiftKind) (os : List Object) (entry : List ℕ) (fault : LiftFault) : Type 0 where
  pub place : List ℕ
  pub here : Shows kind os entry place fault
  pub first : (q : List ℕ) (other : LiftFault) → IsEarlier q place → Shows kind os entry q other → ⊥

-- a kind is shown nowhere
abbrev pub IsAbsent : LiftKind → List Object → List ℕ → Type 0
IsAbsent kind os entry = (place : List ℕ) (fault : LiftFault) → Shows kind os entry place fault → ⊥

-- the least kind that is shown, at its first place
pub record IsLeastFault (os : List Object) (entry : List ℕ) (fault : LiftFault) : Type 0 where
  pub kind : LiftKind
  pub here : IsFirst kind os entry fault
  pub least : (less : LiftKind) → kind_number less < kind_number kind → IsAbsent less os entry

-- want of memory may come at any time
abbrev pub IsRefused : List Object → List ℕ → LiftFault → Type 0
IsRefused os entry faults.OutOfMemory = Unit {0}
IsRefused os entry fault = IsLeastFault os entry fault

-- objects without a fault stand for a program
pub record Lifted (os : List Object) (entry : List ℕ) (p : Prog) : Type 0 where
  pub faultless : (kind : LiftKind) → IsAbsent kind os entry
  pub program : IsProgramOf os entry p
