-- The word of each place of a program in a layout: its instruction, with its operand in its field (SPU ABI, "Relocation types").
use Rattle.std.specs.Prelude.{◌≡◌, ℕ, true}
use Rattle.spu_isa.specs.Table.{Decodes}
use Rattle.spu_reloc.specs.declared.field.RelocKind.{RelocKind}
use Rattle.spu_reloc.specs.Fields.{fits_on, patched}
use Rattle.spu_lift.specs.declared.program.Operand.{Operand}
use Rattle.spu_lift.specs.declared.program.Operand.TheVariants as operand
use Rattle.spu_lift.specs.declared.program.SymInst.{SymInst}
use Rattle.spu_layout.specs.Layouts.{Layout}
use Rattle.spu_layout.specs.Labels.{address_of, call_target, jump_target}

-- the value that an operand of function f stands for
abbrev pub value_of : Layout → ℕ → Operand → ℕ
value_of l f operand.Plain = 0
value_of l f (operand.Number n) = n
value_of l f (operand.Address m) = address_of l m
value_of l f (operand.Call g) = call_target l f g
value_of l f (operand.Jump g) = jump_target l f g
value_of l f (operand.Branch i) = l.at f i

-- a word with a value in the field of the kind of relocation that fits its instruction
pub record IsPatched (x : SymInst) (value place w : ℕ) : Type 0 where
  pub bare : ℕ
  pub decodes : Decodes bare x.inst
  pub kind : RelocKind
  pub fits : fits_on kind x.inst.op ≡ true
  pub is : w ≡ patched bare kind value place

abbrev pub IsWordBy : Operand → Layout → ℕ → ℕ → SymInst → ℕ → Type 0
IsWordBy operand.Plain l f i x w = Decodes w x.inst
IsWordBy o l f i x w = IsPatched x (value_of l f o) (l.at f i) w

-- the word of place i of function f, which is this instruction
abbrev pub IsWord : Layout → ℕ → ℕ → SymInst → ℕ → Type 0
IsWord l f i x w = IsWordBy x.operand l f i x w
