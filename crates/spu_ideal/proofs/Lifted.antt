-- What steps take of a well-formed program.
use Rattle.std.proofs.Common.{◌≡◌, ℕ, ◌<◌, Option, Some, None, refl, subst}
use Rattle.std.specs.Prelude.{length, slice_get}
use Rattle.std.specs.List.{Contains}
use Rattle.std.proofs.lemmas.Option.{slice_get_within}
use Rattle.spu_lift.specs.declared.program.Label.{Label}
use Rattle.spu_lift.specs.declared.program.Label.TheVariants.{Fun, Place, Link}
use Rattle.spu_lift.specs.declared.program.Operand.TheVariants as operand
use Rattle.spu_lift.specs.declared.program.Function.{Function}
use Rattle.spu_lift.specs.declared.program.SymInst.{SymInst}
use Rattle.spu_lift.specs.declared.program.WordLabel.{WordLabel}
use Rattle.spu_lift.specs.declared.program.Part as section
use Rattle.spu_lift.specs.declared.program.Prog.{Prog}
use Rattle.spu_lift.specs.StartCode.{start_code}
use Rattle.spu_lift.specs.Places.{instruction_at, place_in}
use Rattle.spu_lift.specs.WellFormed.{IsTakenTarget, IsOperand, IsWellFormed}
use Rattle.spu_lift.specs.declared.symbolic.SymByte.TheVariants.{Part}
use Rattle.spu_ideal.specs.States.{IsTaken}

pub record IsLifted (p : Prog) : Type 0 where
  pub start : slice_get p.functions 0 ≡ Some (start_code p.data_end p.entry)
  -- function 0 is called by none
  pub calls : (f i g : ℕ) (x : SymInst) → instruction_at p f i ≡ Some x → x.operand ≡ operand.Call g → g ≡ 0 → ⊥
  pub jumps : (f i g : ℕ) (x : SymInst) → instruction_at p f i ≡ Some x → x.operand ≡ operand.Jump g → g ≡ 0 → ⊥
  pub pointers : (g : ℕ) → Contains p.taken g → g ≡ 0 → ⊥
  -- a label in an instruction or in data is taken
  pub operands : (f i : ℕ) (x : SymInst) (l : Label) → instruction_at p f i ≡ Some x → x.operand ≡ operand.Address l → IsTakenTarget p l
  pub words : (part : section.Part) (l : WordLabel) → Contains p.parts part → Contains part.labels l → IsTakenTarget p l.label

pub lifted : (p : Prog) → IsWellFormed p → IsLifted p
lifted p formed = record {
  start = formed.start;
  calls = λ f i g x here is. (let stands = subst (IsOperand p f x) is (formed.instructions f i x here).stands in stands.1.0);
  jumps = λ f i g x here is. (let stands = subst (IsOperand p f x) is (formed.instructions f i x here).stands in stands.1.0);
  pointers = λ g taken. (formed.taken g taken).0;
  operands = λ f i x l here is. (let stands = subst (IsOperand p f x) is (formed.instructions f i x here).stands in stands.1);
  words = λ part l there on. (formed.parts part there).taken l on;
}

-- a part of a label that an instruction or data name
pub target_part : (p : Prog) (l : Label) (k : ℕ) → IsTakenTarget p l → k < 4 → IsTaken p (Part l k)
target_part p (Fun f) k taken small = (taken, small)
target_part p (Place f i) k taken small = (taken, small)
target_part p (Link f i) k taken small = absurd taken

pub function_within : (p : Prog) (f i : ℕ) (x : SymInst) → instruction_at p f i ≡ Some x → f < length p.functions
function_within p f i x = by_function (slice_get p.functions f) refl
  where
    by_function : (o : Option Function) → slice_get p.functions f ≡ o → place_in o i ≡ Some x → f < length p.functions
    by_function None e here = cc
    by_function (Some g) e here = slice_get_within p.functions f g e
