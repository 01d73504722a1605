-- Relocations of the SPU (SPU ABI, "Relocation types"): their numbers, the instructions that each kind may stand on,
-- which bits of a word each kind writes, and the number that it writes there.
use Rattle.std.specs.Prelude.{ℕ, ◌+◌, ◌-◌, ◌*◌, ◌/◌, ◌%◌, ◌^◌, ◌==◌, Bool, false, ℤ, pos}
use Rattle.spu_word.specs.declared.limits.TheConstants.{STORE_SIZE}
use Rattle.spu_isa.specs.declared.operation.Op.{Op}
use Rattle.spu_isa.specs.declared.operation.Op.TheVariants as op
use Rattle.spu_isa.specs.declared.instruction.Inst.{Inst}
use Rattle.spu_isa.specs.Table.{signed}
use Rattle.spu_reloc.specs.declared.field.RelocKind.{RelocKind}
use Rattle.spu_reloc.specs.declared.field.RelocKind.TheVariants.{Addr16, Addr16Hi, Addr16Lo, Addr18, Addr32, Rel16}

-- the type number in a relocation's info
abbrev pub number_of : RelocKind → ℕ
number_of Addr16 = 2
number_of Addr16Hi = 3
number_of Addr16Lo = 4
number_of Addr18 = 5
number_of Addr32 = 6
number_of Rel16 = 7

-- the kind that may stand on an instruction, Addr32 where none may: that stands on data alone
abbrev pub kind_on : Op → RelocKind
kind_on op.Bra = Addr16
kind_on op.Brasl = Addr16
kind_on op.Lqa = Addr16
kind_on op.Stqa = Addr16
kind_on op.Ilhu = Addr16Hi
kind_on op.Iohl = Addr16Lo
kind_on op.Ila = Addr18
kind_on op.Br = Rel16
kind_on op.Brsl = Rel16
kind_on op.Brz = Rel16
kind_on op.Brnz = Rel16
kind_on op.Brhz = Rel16
kind_on op.Brhnz = Rel16
kind_on op.Lqr = Rel16
kind_on op.Stqr = Rel16
kind_on _ = Addr32

-- whether a kind may stand on an instruction
abbrev pub fits_on : RelocKind → Op → Bool
fits_on Addr32 o = false
fits_on kind o = number_of kind == number_of (kind_on o)

-- where the field lies, and how many bits it has
abbrev pub lowest_bit : RelocKind → ℕ
lowest_bit Addr32 = 0
lowest_bit _ = 7

abbrev pub bits : RelocKind → ℕ
bits Addr16 = 16
bits Addr16Hi = 16
bits Addr16Lo = 16
bits Addr18 = 18
bits Addr32 = 32
bits Rel16 = 16

-- the number, of which the field takes its lowest bits
abbrev pub field_number : RelocKind → ℕ → ℕ → ℕ
field_number Addr16 value at = value / 2 ^ 2
field_number Addr16Hi value at = value / 2 ^ 16
field_number Addr16Lo value at = value
field_number Addr18 value at = value
field_number Addr32 value at = value
field_number Rel16 value at = (value + 2 ^ 32 - at) % STORE_SIZE / 2 ^ 2

-- the bits above the field, the field, and the bits below it
abbrev pub patched : ℕ → RelocKind → ℕ → ℕ → ℕ
patched w kind value at =
    (w / 2 ^ (lowest_bit kind + bits kind) * 2 ^ bits kind + field_number kind value at % 2 ^ bits kind) * 2 ^ lowest_bit kind + w % 2 ^ lowest_bit kind

-- the field as the immediate that it is read as: of `ila` without a sign, of all others with one
abbrev pub stored : RelocKind → ℕ → ℕ → ℤ
stored Addr18 value at = pos (field_number Addr18 value at % 2 ^ bits Addr18)
stored kind value at = signed (bits kind) (field_number kind value at % 2 ^ bits kind)

-- the instruction whose field holds what a kind stores of a value
abbrev pub relocated : RelocKind → ℕ → ℕ → Inst → Inst
relocated kind value at x = record x { imm = stored kind value at }
