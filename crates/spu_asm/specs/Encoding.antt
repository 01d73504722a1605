-- The word of an instruction: its opcode and its fields, by its layout (SPU ISA 1.2, "Instruction formats").
use Rattle.std.specs.Prelude.{ℕ, ◌+◌, ◌-◌, ◌*◌, ◌^◌, ℤ, pos, negsuc}
use Rattle.spu_isa.specs.declared.instruction.Inst.{Inst}
use Rattle.spu_isa.specs.declared.operation.Layout.{Layout}
use Rattle.spu_isa.specs.declared.operation.Layout.TheVariants.{Rr, Rrr, Ri7, Ri10, Ri16, Ri18, HintA, HintB, StopForm}
use Rattle.spu_isa.specs.Table.{row_of, opcode_of}

-- a number as a field of so many bits, in two's complement
abbrev pub field : ℕ → ℤ → ℕ
field width (pos n) = n
field width (negsuc n) = 2 ^ width - 1 - n

abbrev pub with_fields : Layout → ℕ → Inst → ℕ
with_fields Rr o x = ((o * 2 ^ 7 + x.rb) * 2 ^ 7 + x.ra) * 2 ^ 7 + x.rt
with_fields Rrr o x = (((o * 2 ^ 7 + x.rt) * 2 ^ 7 + x.rb) * 2 ^ 7 + x.ra) * 2 ^ 7 + x.rc
with_fields Ri7 o x = ((o * 2 ^ 7 + field 7 x.imm) * 2 ^ 7 + x.ra) * 2 ^ 7 + x.rt
with_fields Ri10 o x = ((o * 2 ^ 10 + field 10 x.imm) * 2 ^ 7 + x.ra) * 2 ^ 7 + x.rt
with_fields Ri16 o x = (o * 2 ^ 16 + field 16 x.imm) * 2 ^ 7 + x.rt
with_fields Ri18 o x = (o * 2 ^ 18 + field 18 x.imm) * 2 ^ 7 + x.rt
with_fields HintA o x = ((o * 2 ^ 7 + x.rb) * 2 ^ 7 + x.ra) * 2 ^ 7 + x.rt
with_fields HintB o x = ((o * 2 ^ 2 + x.rb) * 2 ^ 16 + field 16 x.imm) * 2 ^ 7 + x.rt
with_fields StopForm o x = o * 2 ^ 21 + field 14 x.imm

unfoldable pub word_of : Inst → ℕ
word_of x = with_fields (row_of x.op).layout (opcode_of x.op) x
