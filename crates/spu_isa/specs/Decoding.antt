-- The instruction that a word is, as a function: the one operation of the table whose opcode the word begins with, and
-- whose fields that must be zero are.
use Rattle.std.specs.Prelude.{ℕ, ◌-◌, ◌/◌, ◌^◌, ◌==◌, ◌&&◌, Bool, true, List, [], ◌∷◌, Option, find, map}
use Rattle.std.specs.Option.{option_map}
use Rattle.spu_isa.specs.declared.operation.Op.{Op}
use Rattle.spu_isa.specs.declared.operation.TheConstants.{WORD_BITS}
use Rattle.spu_isa.specs.declared.table.TheConstants.{ROWS}
use Rattle.spu_isa.specs.declared.instruction.Inst.{Inst}
use Rattle.spu_isa.specs.Table.{Layout, HintA, StopForm, Register, row_of, opcode_bits, opcode_of, bits_at, fields_of, reg_of}

-- all operations, as the code lists them
abbrev pub all_ops : List Op
all_ops = map (λ r. r.op) ROWS

-- the instruction that a word is, if it is one of this operation
abbrev pub read_as : ℕ → Op → Inst
read_as w o = fields_of (row_of o).layout o w

abbrev pub no_other_bits : Layout → ℕ → Bool
no_other_bits HintA w = bits_at w 16 5 == 0
no_other_bits StopForm w = bits_at w 14 7 == 0
no_other_bits _ w = true

abbrev pub are_zero : List Register → Inst → Bool
are_zero [] x = true
are_zero (r ∷ rs) x = (reg_of x r == 0) && are_zero rs x

-- whether a word is an instruction of this operation
abbrev pub is_word_of : ℕ → Op → Bool
is_word_of w o =
    (w / 2 ^ (WORD_BITS - opcode_bits (row_of o).layout) == opcode_of o) && (no_other_bits (row_of o).layout w && are_zero (row_of o).zero_fields (read_as w o))

unfoldable pub decoded : ℕ → Option Inst
decoded w = option_map (read_as w) (find (is_word_of w) all_ops)
