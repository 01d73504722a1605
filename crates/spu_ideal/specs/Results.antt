-- What a computing instruction leaves in its register, of symbolic bytes. Moves keep bytes as they are; every other
-- instruction gives a number in each byte all of whose sources are numbers, and else Unknown.
use Rattle.std.specs.Prelude.{ℕ, zero, suc, ◌&&◌, nat_lt, if◌then◌else◌, Bool, true, List, map, Option, Some, None, slice_index}
use Rattle.spu_word.specs.declared.limits.TheConstants.{QUAD_SIZE}
use Rattle.spu_isa.specs.declared.operation.Op.{Op}
use Rattle.spu_isa.specs.declared.operation.Op.TheVariants as op
use Rattle.spu_isa.specs.declared.instruction.Inst.{Inst}
use Rattle.spu_exec.specs.Lanes.{immediate}
use Rattle.spu_exec.specs.Values.{value}
use Rattle.spu_exec.specs.declared.sources.Source.TheVariants.{FromRa, FromRb, FromRc, FromRt}
use Rattle.spu_exec.specs.Reads.{reads}
use Rattle.spu_exec.specs.Moves.{moved, immediate_byte}
use Rattle.spu_lift.specs.declared.program.Label.{Label}
use Rattle.spu_lift.specs.declared.symbolic.SymByte.{SymByte}
use Rattle.spu_lift.specs.declared.symbolic.SymByte.TheVariants.{Num, Part, Unknown}
use Rattle.spu_ideal.specs.Bytes.{sym_at, sixteen, is_number, number_of, sym_bytes}

-- whether each of the first n bytes that is read is a number
unfoldable pub are_known : (ℕ → Bool) → List SymByte → ℕ → Bool
are_known is_read quad zero = true
are_known is_read quad (suc j) = (if is_read j then is_number (sym_at quad j) else true) && are_known is_read quad j

-- byte k where nothing is moved
unfoldable pub computed_byte : Inst → List SymByte → List SymByte → List SymByte → List SymByte → ℕ → SymByte
computed_byte x a b c t k =
    if are_known (reads x.op FromRa k) a QUAD_SIZE && (are_known (reads x.op FromRb k) b QUAD_SIZE && (are_known (reads x.op FromRc k) c QUAD_SIZE && are_known (reads x.op FromRt k) t QUAD_SIZE))
    then Num (slice_index (value x (map number_of a) (map number_of b) (map number_of c) (map number_of t)) k)
    else Unknown

abbrev pub or_else : Option SymByte → SymByte → SymByte
or_else None other = other
or_else (Some s) other = s

-- byte k of an instruction whose immediate is a number
abbrev pub number_byte : Inst → ℕ → SymByte
number_byte x j = Num (immediate_byte x.op (immediate 4 x.imm) j)

unfoldable pub symbolic_byte : Inst → List SymByte → List SymByte → List SymByte → List SymByte → ℕ → SymByte
symbolic_byte x a b c t k =
    or_else (moved sym_bytes x.op (immediate 4 x.imm) (number_byte x) (sym_at a) (sym_at b) (sym_at c) (sym_at t) k) (computed_byte x a b c t k)

abbrev pub symbolic_value : Inst → List SymByte → List SymByte → List SymByte → List SymByte → List SymByte
symbolic_value x a b c t = sixteen (symbolic_byte x a b c t)

-- byte j of the word that a label in place of the immediate stands for: `ila` has the address, `ilhu` and `iohl` have the
-- high and the low halfword of it where it stands in an address
abbrev pub label_byte : Op → Label → ℕ → SymByte
label_byte op.Ila l j = Part l j
label_byte op.Ilhu l j = if nat_lt j 2 then Part l j else Num 0
label_byte op.Iohl l j = if nat_lt j 2 then Num 0 else Part l j
label_byte _ l j = Unknown

-- byte k of an instruction that has a label in place of its immediate
unfoldable pub label_value_byte : Inst → Label → List SymByte → List SymByte → List SymByte → List SymByte → ℕ → SymByte
label_value_byte x l a b c t k =
    or_else (moved sym_bytes x.op 0 (label_byte x.op l) (sym_at a) (sym_at b) (sym_at c) (sym_at t) k) Unknown

abbrev pub label_value : Inst → Label → List SymByte → List SymByte → List SymByte → List SymByte → List SymByte
label_value x l a b c t = sixteen (label_value_byte x l a b c t)
