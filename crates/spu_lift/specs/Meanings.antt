-- What a relocation's symbol and addend stand for, and what stands for the field of an instruction: a number, or a place of code.
-- (ELF, "Relocation"; SPU ABI, "Relocation types". Hints tell only where a branch will go: SPU ISA 1.2, "Hint-for-branch instructions".)
use Rattle.std.specs.Prelude.{◌≡◌, ℕ, ◌-◌, ◌%◌, ◌^◌, ◌&&◌, Bool, true, false, if◌then◌else◌, List, Option, Some, None, ℤ, pos, negsuc, ◌+ℤ◌, ◌*ℤ◌}
use Rattle.spu_word.specs.declared.limits.TheConstants.{WORD_SIZE}
use Rattle.spu_word.specs.Bytes.{be_number}
use Rattle.spu_isa.specs.declared.operation.Op.{Op}
use Rattle.spu_isa.specs.declared.operation.Op.TheVariants as op
use Rattle.spu_isa.specs.declared.instruction.Inst.{Inst}
use Rattle.spu_isa.specs.Table.{Decodes, row_of}
use Rattle.spu_elf.specs.declared.objects.SecKind.TheVariants as kinds
use Rattle.spu_elf.specs.declared.objects.Section.{Section}
use Rattle.spu_elf.specs.declared.objects.SymPlace.{SymPlace}
use Rattle.spu_elf.specs.declared.objects.SymPlace.TheVariants as places
use Rattle.spu_elf.specs.declared.objects.Symbol.{Symbol}
use Rattle.spu_elf.specs.declared.objects.Reloc.{Reloc}
use Rattle.spu_elf.specs.declared.objects.Object.{Object}
use Rattle.spu_reloc.specs.declared.field.RelocKind.TheVariants.{Rel16}
use Rattle.spu_reloc.specs.Fields.{fits_on}
use Rattle.spu_lift.specs.declared.tables.Meaning.{Meaning}
use Rattle.spu_lift.specs.declared.tables.Meaning.TheVariants.{Number, Code, Unknown}
use Rattle.spu_lift.specs.WellFormed.{is_direct}
use Rattle.spu_lift.specs.Tables.{DataPlace, Definition, data_place, reloc_on, section_at, target_of}

-- numbers that come from symbols are taken modulo 2^32
abbrev pub modulo : ℤ → ℕ
modulo (pos n) = n % 2 ^ 32
modulo (negsuc n) = 2 ^ 32 - 1 - n % 2 ^ 32

-- a defined symbol inside a section of data plus an addend is a number, and so is an absolute one
abbrev pub meaning_inside : ℕ → ℕ → ℕ → ℤ → Option DataPlace → Meaning
meaning_inside n k value addend (Some d) = Number (modulo (pos d.address +ℤ addend))
meaning_inside n k value addend None = Code n k (pos value +ℤ addend)

abbrev pub meaning_by : List Object → ℕ → Symbol → ℤ → SymPlace → Meaning
meaning_by os n s addend places.Undefined = Unknown
meaning_by os n s addend places.Absolute = Number (modulo (pos s.value +ℤ addend))
meaning_by os n s addend (places.Inside k) = meaning_inside n k s.value addend (data_place os n s)

abbrev pub meaning_with : List Object → ℤ → Option Definition → Meaning
meaning_with os addend None = Unknown
meaning_with os addend (Some d) = meaning_by os d.object d.symbol addend d.symbol.place

-- what a relocation of object n stands for
abbrev pub meaning_of : List Object → ℕ → Reloc → Meaning
meaning_of os n r = meaning_with os r.addend (target_of os n r)

-- ---- words of code

abbrev pub is_hint : Op → Bool
is_hint op.Hbr = true
is_hint op.Hbra = true
is_hint op.Hbrr = true
is_hint _ = false

-- the word at an offset of section k is this instruction
pub record IsInstructionAt (os : List Object) (n k offset : ℕ) (t : Section) (x : Inst) : Type 0 where
  pub section : section_at os n k ≡ Some t
  pub code : t.kind ≡ kinds.Code
  pub aligned : offset % WORD_SIZE ≡ 0
  pub decodes : Decodes (be_number t.bytes offset) x

-- the relocation's word is a hint
abbrev pub IsOnHint : List Object → ℕ → Reloc → Type 0
IsOnHint os n r = (t : Section) × (x : Inst) × IsInstructionAt os n r.section r.offset t x × (is_hint x.op ≡ true)

-- a branch or call by a distance
abbrev pub is_relative : Op → Bool
is_relative o = is_direct (row_of o).kind && fits_on Rel16 o

-- what stands for the field of an instruction at an offset of section k: what the relocation there stands for, or of a branch or call by a
-- distance the place that it goes to by itself; nothing where the field stands for itself
abbrev pub field_by : List Object → ℕ → ℕ → ℕ → Inst → Option Reloc → Option Meaning
field_by os n k offset x (Some r) = Some (meaning_of os n r)
field_by os n k offset x None = if is_relative x.op then Some (Code n k (pos offset +ℤ (pos WORD_SIZE *ℤ x.imm))) else None

abbrev pub field_of : List Object → ℕ → ℕ → ℕ → Inst → Option Meaning
field_of os n k offset x = field_by os n k offset x (reloc_on os n k offset)
