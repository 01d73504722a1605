-- Instructions that move, on which the symbolic results are tried.
use Rattle.std.specs.Prelude.{ℕ, Bool, false, true, List, ℤ}
use Rattle.spu_isa.specs.declared.operation.Op.{Op}
use Rattle.spu_isa.specs.declared.operation.Op.TheVariants as op
use Rattle.spu_isa.specs.declared.instruction.Inst.{Inst}
use Rattle.spu_word.specs.Bytes.{quad_of}
use Rattle.spu_lift.specs.declared.symbolic.SymByte.{SymByte}
use Rattle.spu_ideal.specs.Bytes.{numbers}

-- an instruction on registers 1, 2, 3 to register 4, with an immediate
abbrev pub of_op : Op → ℤ → Inst
of_op o i = record { op = o; rt = 4; ra = 1; rb = 2; rc = 3; imm = i }

-- the quad of four words
abbrev pub words : ℕ → ℕ → ℕ → ℕ → List SymByte
words a b c d = numbers (quad_of a b c d)

-- the operations that move bytes
abbrev pub is_move : Op → Bool
is_move op.Shufb = true
is_move op.Selb = true
is_move op.Rotqby = true
is_move op.Rotqbyi = true
is_move op.Rotqbybi = true
is_move op.Shlqby = true
is_move op.Shlqbyi = true
is_move op.Shlqbybi = true
is_move op.Rotqmby = true
is_move op.Rotqmbyi = true
is_move op.Or = true
is_move op.Ori = true
is_move op.Orhi = true
is_move op.Orbi = true
is_move op.Iohl = true
is_move op.Ila = true
is_move op.Ilhu = true
is_move _ = false
