-- The instruction that the word of a place is.
use Rattle.std.specs.Prelude.{◌≡◌, ℕ, true}
use Rattle.spu_isa.specs.declared.instruction.Inst.{Inst}
use Rattle.spu_isa.specs.declared.operation.Op.{Op}
use Rattle.spu_reloc.specs.Fields.{fits_on, kind_on, relocated}
use Rattle.spu_lift.specs.declared.program.Operand.{Operand}
use Rattle.spu_lift.specs.declared.program.Operand.TheVariants as operand
use Rattle.spu_lift.specs.declared.program.SymInst.{SymInst}
use Rattle.spu_layout.specs.Layouts.{Layout}
use Rattle.spu_layout.specs.Labels.{code, address_of}
use Rattle.spu_image.specs.Words.{value_of}
use Rattle.spu_image.proofs.Agreeings.{IsAddress}

abbrev pub instruction_by : Operand → Layout → ℕ → ℕ → Inst → Inst
instruction_by operand.Plain l f i x = x
instruction_by o l f i x = relocated (kind_on x.op) (value_of l f o) (l.at f i) x

abbrev pub instruction : Layout → ℕ → ℕ → SymInst → Inst
instruction l f i x = instruction_by x.operand l f i x.inst

-- a label stands on an instruction that has a field for it, and its bytes begin with the address that the field is of
abbrev pub HasAddress : Layout → Operand → Op → Type 0
HasAddress l (operand.Address m) o = (fits_on (kind_on o) o ≡ true) × IsAddress (code l m) (address_of l m)
HasAddress l _ o = Unit {0}
