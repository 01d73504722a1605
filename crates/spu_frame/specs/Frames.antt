-- When the frames of a program are good, and the frame of a function: the greatest depth before or after a place that a walk
-- reaches. (This project's own.)
use Rattle.std.specs.Prelude.{◌≡◌, ◌≢◌, ℕ, ◌<◌, ◌⊎◌, [], length, Option, Some, None, ℤ, pos, ◌+ℤ◌, ◌≤ℤ◌}
use Rattle.spu_word.specs.declared.limits.TheConstants.{MAX_STACK_LIMIT}
use Rattle.spu_isa.specs.declared.operation.Kind.TheVariants as kind
use Rattle.spu_lift.specs.declared.program.Operand.TheVariants as operand
use Rattle.spu_lift.specs.declared.program.SymInst.{SymInst}
use Rattle.spu_lift.specs.declared.program.Prog.{Prog}
use Rattle.spu_lift.specs.Places.{instruction_at, taken_places, kind_of, link_register, stack_pointer, Writes}
use Rattle.spu_frame.specs.Walks.{IsPointerBranch, IsKnownWrite, Adds, Reaches}

-- a return; a jump by a pointer: an indirect branch on another register in a function without taken places; either of these, or a jump
-- to another function
abbrev pub IsReturn : SymInst → Type 0
IsReturn x = (kind_of x ≡ kind.Indirect) × (x.inst.ra ≡ link_register)

abbrev pub IsPointerJump : Prog → ℕ → SymInst → Type 0
IsPointerJump p f x = IsPointerBranch x × (taken_places p f ≡ [])

abbrev pub IsExit : Prog → ℕ → SymInst → Type 0
IsExit p f x = IsReturn x ⊎ (((g : ℕ) × (x.operand ≡ operand.Jump g)) ⊎ IsPointerJump p f x)

-- a depth that a stack can have
abbrev pub IsDepthInRange : ℤ → Type 0
IsDepthInRange n = (pos 0 ≤ℤ n) × (n ≤ℤ pos MAX_STACK_LIMIT)

-- a depth before or after place i of f, which a walk reaches
abbrev pub IsDepthAt : Prog → ℕ → ℕ → ℤ → Type 0
IsDepthAt p f i n = Reaches p f i n ⊎ ((m : ℤ) × (c : ℤ) × Reaches p f i m × Adds p f i c × (n ≡ m +ℤ c))

pub record AreGood (p : Prog) : Type 0 where
  -- an instruction of a function other than the start code writes the stack pointer in a known way alone
  pub known : (f i : ℕ) (x : SymInst) → f ≢ 0 → instruction_at p f i ≡ Some x → Writes x stack_pointer → (k : ℤ) × IsKnownWrite p f i k
  -- no two walks reach a place with different depths
  pub agreed : (f i : ℕ) (n m : ℤ) → Reaches p f i n → Reaches p f i m → n ≡ m
  -- the depth is 0 at each exit
  pub level : (f i : ℕ) (n : ℤ) (x : SymInst) → Reaches p f i n → instruction_at p f i ≡ Some x → IsExit p f x → n ≡ pos 0
  -- each depth is in range
  pub range : (f i : ℕ) (n : ℤ) → IsDepthAt p f i n → IsDepthInRange n

-- the frame of f: its greatest depth
pub record IsFrame (p : Prog) (f frame : ℕ) : Type 0 where
  pub at : ℕ
  pub some : IsDepthAt p f at (pos frame)
  pub most : (i : ℕ) (n : ℤ) → IsDepthAt p f i n → n ≤ℤ pos frame

-- the depths and frames of a program with good frames; a place has a depth exactly where a walk reaches it
pub record AreDepths (p : Prog) (depth : ℕ → ℕ → Option ℕ) (frames : ℕ → ℕ) : Type 0 where
  pub good : AreGood p
  pub some : (f i n : ℕ) → depth f i ≡ Some n → Reaches p f i (pos n)
  pub none : (f i : ℕ) (n : ℤ) → depth f i ≡ None → Reaches p f i n → ⊥
  pub greatest : (f : ℕ) → f < length p.functions → IsFrame p f (frames f)
