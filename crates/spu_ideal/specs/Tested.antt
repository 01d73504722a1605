-- What a test, a halt and an address ask of symbolic bytes: that each byte that they read is a number. Where one isn't, the
-- run is outside.
use Rattle.std.specs.Prelude.{ℕ, ◌&&◌, Bool, List, map}
use Rattle.spu_word.specs.declared.limits.TheConstants.{QUAD_SIZE}
use Rattle.spu_isa.specs.declared.instruction.Inst.{Inst}
use Rattle.spu_exec.specs.Places.{taken, holds, place}
use Rattle.spu_exec.specs.declared.sources.Source.TheVariants.{FromRa, FromRb, FromRt}
use Rattle.spu_exec.specs.Tested.{tested, addressed}
use Rattle.spu_lift.specs.declared.symbolic.SymByte.{SymByte}
use Rattle.spu_ideal.specs.Bytes.{number_of}
use Rattle.spu_ideal.specs.Results.{are_known}

-- whether the bytes are numbers that a branch tests, of the quad of rt
abbrev pub can_test : Inst → List SymByte → Bool
can_test x t = are_known (tested x.op FromRt) t QUAD_SIZE

-- that a halt tests, of the quads of ra and rb
abbrev pub can_halt : Inst → List SymByte → List SymByte → Bool
can_halt x a b = are_known (tested x.op FromRa) a QUAD_SIZE && are_known (tested x.op FromRb) b QUAD_SIZE

-- that the address of a load or store reads, of the quads of ra and rb
abbrev pub can_address : Inst → List SymByte → List SymByte → Bool
can_address x a b = are_known (addressed x.op FromRa) a QUAD_SIZE && are_known (addressed x.op FromRb) b QUAD_SIZE

-- what they then are
abbrev pub symbolic_taken : Inst → List SymByte → Bool
symbolic_taken x t = taken x (map number_of t)

abbrev pub symbolic_holds : Inst → List SymByte → List SymByte → Bool
symbolic_holds x a b = holds x (map number_of a) (map number_of b)

abbrev pub symbolic_place : Inst → ℕ → List SymByte → List SymByte → ℕ
symbolic_place x pc a b = place x pc (map number_of a) (map number_of b)
