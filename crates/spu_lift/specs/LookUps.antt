-- What the tables hold in which lifting looks things up. (No standard has them.)
use Rattle.std.specs.Prelude.{◌≡◌, ℕ, ◌+◌, ◌≤◌, Bool, true, ◌&&◌, ◌==◌, List, length, All, Option, Some, None, nat_le, if◌then◌else◌}
use Rattle.std.specs.List.{position_from}
use Rattle.std.specs.Map.{lookup}
use Rattle.std.specs.Option.{option_and_then}
use Rattle.spu_word.specs.declared.limits.TheConstants.{MAX_OBJECTS}
use Rattle.spu_word.specs.Bytes.{be_number}
use Rattle.spu_isa.specs.declared.instruction.Inst.{Inst}
use Rattle.spu_isa.specs.Table.{Decodes}
use Rattle.spu_elf.specs.WellFormed.{IsWellFormed}
use Rattle.spu_elf.specs.declared.objects.Reloc.{Reloc}
use Rattle.spu_elf.specs.declared.objects.Section.{Section}
use Rattle.spu_elf.specs.declared.objects.SymKind.TheVariants as names
use Rattle.spu_elf.specs.declared.objects.Object.{Object}
use Rattle.spu_lift.specs.declared.relocations.Spot.{Spot}
use Rattle.spu_lift.specs.declared.relocations.Relocations.{Relocations}
use Rattle.spu_lift.specs.Defined.{AreDefined}
use Rattle.spu_lift.specs.declared.definitions.Definitions.{Definitions}
use Rattle.spu_lift.specs.declared.tables.Tables.{Tables}
use Rattle.spu_lift.specs.Tables.{Definition, definition_of, relocs_of, section_at, symbol_at}
use Rattle.spu_lift.specs.Placed.{ArePlaced}
use Rattle.spu_lift.specs.Meanings.{IsInstructionAt, is_hint}

-- ---- relocations by their places

abbrev pub same_spot : Spot → Spot → Bool
same_spot s q = (s.object == q.object) && ((s.section == q.section) && (s.offset == q.offset))

-- the index noted at a place
abbrev pub noted : Relocations → Spot → Option ℕ
noted t q = lookup (same_spot q) t.by_spot.entries

-- a relocation stands at a place of its object
abbrev pub stands_at : Spot → Reloc → Bool
stands_at q r = (r.section == q.section) && (r.offset == q.offset)

-- the index of the first at a place, among these of object n
abbrev pub first_of : ℕ → List Reloc → Spot → Option ℕ
first_of n rs q = if n == q.object then position_from (stands_at q) 0 rs else None

-- each place has the index of the first relocation there
abbrev pub Notes : List Object → Relocations → Type 0
Notes os t = (q : Spot) → noted t q ≡ position_from (stands_at q) 0 (relocs_of os q.object)

-- ---- definitions

-- a definition is the symbol of its numbers
abbrev pub IsThere : List Object → Definition → Type 0
IsThere os x = symbol_at os x.object x.number ≡ Some x.symbol

pub record AreDefinitionsOf (os : List Object) (d : Definitions) : Type 0 where
  pub found : AreDefined os d
  pub there : (name : List ℕ) (x : Definition) → definition_of os name ≡ Some x → IsThere os x

-- ---- all tables

pub record AreTables (t : Tables) : Type 0 where
  pub few : length t.objects.now ≤ MAX_OBJECTS
  pub formed : All IsWellFormed t.objects.now
  pub sections : ArePlaced t.objects.now t.sections
  pub definitions : AreDefinitionsOf t.objects.now t.definitions
  pub relocations : Notes t.objects.now t.relocations

-- the word at a place
abbrev pub word_in : ℕ → Section → Option ℕ
word_in offset t = if nat_le (offset + 4) (length t.bytes) then Some (be_number t.bytes offset) else None

abbrev pub word_at : List Object → Spot → Option ℕ
word_at os q = option_and_then (word_in q.offset) (section_at os q.object q.section)

-- the word at a place decodes to x
pub record IsWordOf (os : List Object) (q : Spot) (x : Inst) : Type 0 where
  pub word : ℕ
  pub at : word_at os q ≡ Some word
  pub decodes : Decodes word x

-- the section of a place has a word there
abbrev pub HasWord : List Object → Spot → Type 0
HasWord os q = (t : Section) → section_at os q.object q.section ≡ Some t → q.offset + 4 ≤ length t.bytes

-- a relocation at a place is on a hint
abbrev pub IsHintAt : List Object → Spot → Type 0
IsHintAt os q = (t : Section) × (x : Inst) × IsInstructionAt os q.object q.section q.offset t x × (is_hint x.op ≡ true)

-- a relocation's symbol is a function
abbrev pub IsFunctionTarget : Option Definition → Type 0
IsFunctionTarget None = ⊥
IsFunctionTarget (Some x) = x.symbol.kind ≡ names.Function
