-- What is wrong with the frames of a program: the fault with the least number, at its first place by function and index. (This
-- project's own.)
use Rattle.std.specs.Prelude.{◌≡◌, ◌≢◌, ℕ, ◌<◌, ◌⊎◌, Some, ℤ, pos}
use Rattle.spu_lift.specs.declared.program.SymInst.{SymInst}
use Rattle.spu_lift.specs.declared.program.Prog.{Prog}
use Rattle.spu_lift.specs.Places.{instruction_at, stack_pointer, Writes}
use Rattle.spu_frame.specs.declared.faults.FrameKind.{FrameKind}
use Rattle.spu_frame.specs.declared.faults.FrameKind.TheVariants.{StackWrite, DepthDisagrees, DepthAtExit, DepthRange}
use Rattle.spu_frame.specs.Walks.{IsKnownWrite, Reaches}
use Rattle.spu_frame.specs.Frames.{IsExit, IsDepthAt, IsDepthInRange}

abbrev pub number_of : FrameKind → ℕ
number_of StackWrite = 14
number_of DepthDisagrees = 15
number_of DepthAtExit = 16
number_of DepthRange = 17

-- an instruction of a function other than the start code writes the stack pointer, and no known write stands there
pub record WritesOtherwise (p : Prog) (f i : ℕ) : Type 0 where
  pub function : f ≢ 0
  pub x : SymInst
  pub here : instruction_at p f i ≡ Some x
  pub writes : Writes x stack_pointer
  pub unknown : (k : ℤ) → IsKnownWrite p f i k → ⊥

-- two walks reach the place with different depths
pub record HasTwoDepths (p : Prog) (f i : ℕ) : Type 0 where
  pub one : ℤ
  pub other : ℤ
  pub first : Reaches p f i one
  pub second : Reaches p f i other
  pub apart : one ≢ other

-- the depth isn't 0 at an exit
pub record ExitsWithin (p : Prog) (f i : ℕ) : Type 0 where
  pub depth : ℤ
  pub reached : Reaches p f i depth
  pub x : SymInst
  pub here : instruction_at p f i ≡ Some x
  pub exit : IsExit p f x
  pub deep : depth ≢ pos 0

-- a depth before or after the place isn't in range
abbrev pub LeavesRange : Prog → ℕ → ℕ → Type 0
LeavesRange p f i = (n : ℤ) × IsDepthAt p f i n × (IsDepthInRange n → ⊥)

abbrev pub IsFaulty : FrameKind → Prog → ℕ → ℕ → Type 0
IsFaulty StackWrite p f i = WritesOtherwise p f i
IsFaulty DepthDisagrees p f i = HasTwoDepths p f i
IsFaulty DepthAtExit p f i = ExitsWithin p f i
IsFaulty DepthRange p f i = LeavesRange p f i

pub record IsFrameFault (p : Prog) (kind : FrameKind) (f i : ℕ) : Type 0 where
  pub here : IsFaulty kind p f i
  pub least : (other : FrameKind) (g j : ℕ) → number_of other < number_of kind → IsFaulty other p g j → ⊥
  pub first : (g j : ℕ) → (g < f) ⊎ ((g ≡ f) × (j < i)) → IsFaulty kind p g j → ⊥
