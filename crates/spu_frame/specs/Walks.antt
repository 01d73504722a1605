-- Walks of a function, and the depth of the stack along them. A walk begins at place 0 with depth 0; a known write of the
-- stack pointer adds what it takes off it. The stack pointer and the link are registers of the SPU ABI, "Register usage"; which
-- writes are known is this project's own.
use Rattle.std.specs.Prelude.{◌≡◌, ◌≢◌, ℕ, suc, ◌+◌, ◌%◌, ◌<◌, ◌≤◌, ◌⊎◌, Bool, true, false, List, [], ◌∷◌, Some, ℤ, pos, negsuc, ◌-ℤ◌, ◌+ℤ◌}
use Rattle.std.specs.List.{Contains}
use Rattle.spu_isa.specs.declared.operation.Op.{Op}
use Rattle.spu_isa.specs.declared.operation.Op.TheVariants as op
use Rattle.spu_isa.specs.declared.operation.Kind.{Kind}
use Rattle.spu_isa.specs.declared.operation.Kind.TheVariants as kind
use Rattle.spu_lift.specs.declared.program.Operand.TheVariants as operand
use Rattle.spu_lift.specs.declared.program.SymInst.{SymInst}
use Rattle.spu_lift.specs.declared.program.Prog.{Prog}
use Rattle.spu_lift.specs.Places.{instruction_at, taken_places, kind_of, link_register, stack_pointer, IsPlace, Writes, IsTarget}

-- ---- successors

-- whether a branch has a test
abbrev pub is_conditional : Op → Bool
is_conditional op.Brz = true
is_conditional op.Brnz = true
is_conditional op.Brhz = true
is_conditional op.Brhnz = true
is_conditional op.Biz = true
is_conditional op.Binz = true
is_conditional op.Bihz = true
is_conditional op.Bihnz = true
is_conditional _ = false

-- whether a walk can go on at the next place: not after a stop, nor after a branch, a jump or an indirect branch without a test
abbrev pub goes_on : Kind → Op → Bool
goes_on kind.StopOp o = false
goes_on kind.Branch o = is_conditional o
goes_on kind.Indirect o = is_conditional o
goes_on _ o = true

-- from place i to the next one, where i isn't the last
pub record GoesOn (p : Prog) (f i j : ℕ) : Type 0 where
  pub x : SymInst
  pub here : instruction_at p f i ≡ Some x
  pub on : goes_on (kind_of x) x.inst.op ≡ true
  pub next : j ≡ i + 1
  pub y : SymInst
  pub there : instruction_at p f j ≡ Some y

-- from a branch to its target
pub record Branches (p : Prog) (f i j : ℕ) : Type 0 where
  pub x : SymInst
  pub here : instruction_at p f i ≡ Some x
  pub to : x.operand ≡ operand.Branch j

-- an indirect branch on another register than the link
abbrev pub IsPointerBranch : SymInst → Type 0
IsPointerBranch x = (kind_of x ≡ kind.Indirect) × (x.inst.ra ≢ link_register)

-- from such a branch to each taken place
pub record Points (p : Prog) (f i j : ℕ) : Type 0 where
  pub x : SymInst
  pub here : instruction_at p f i ≡ Some x
  pub branch : IsPointerBranch x
  pub taken : Contains (taken_places p f) j

-- place j is a successor of place i
abbrev pub Follows : Prog → ℕ → ℕ → ℕ → Type 0
Follows p f i j = GoesOn p f i j ⊎ (Branches p f i j ⊎ Points p f i j)

-- ---- known writes of the stack pointer

abbrev pub IsOf16 : ℤ → Type 0
IsOf16 (pos n) = n % 16 ≡ 0
IsOf16 (negsuc n) = suc n % 16 ≡ 0

-- whether a kind can lead away from the next place, or come back from elsewhere; a halt or a stop ends the run where it leads away
abbrev pub leads_away : Kind → Bool
leads_away kind.Branch = true
leads_away kind.Call = true
leads_away kind.Indirect = true
leads_away kind.PointerCall = true
leads_away _ = false

-- an `il $r,k` at place h, whose k register r holds up to place i: no place between them writes r or leads away, and
-- none after h up to i is a target
pub record Holds (p : Prog) (f h r : ℕ) (k : ℤ) (i : ℕ) : Type 0 where
  pub before : h < i
  pub x : SymInst
  pub here : instruction_at p f h ≡ Some x
  pub il : x.inst.op ≡ op.Il
  pub plain : x.operand ≡ operand.Plain
  pub register : x.inst.rt ≡ r
  pub number : x.inst.imm ≡ k
  pub aligned : IsOf16 k
  pub kept : (j : ℕ) (y : SymInst) → h < j → j < i → instruction_at p f j ≡ Some y → Writes y r → ⊥
  pub straight : (j : ℕ) (y : SymInst) → h < j → j < i → instruction_at p f j ≡ Some y → leads_away (kind_of y) ≡ false
  pub alone : (j : ℕ) → h < j → j ≤ i → IsTarget p f j → ⊥

-- ai $1,$1,k
pub record AddsImmediate (x : SymInst) (k : ℤ) : Type 0 where
  pub ai : x.inst.op ≡ op.Ai
  pub plain : x.operand ≡ operand.Plain
  pub to : x.inst.rt ≡ stack_pointer
  pub from : x.inst.ra ≡ stack_pointer
  pub number : x.inst.imm ≡ k
  pub aligned : IsOf16 k

-- a $1,$1,$r, where an il $r,k holds
pub record AddsRegister (p : Prog) (f i : ℕ) (x : SymInst) (k : ℤ) : Type 0 where
  pub a : x.inst.op ≡ op.A
  pub plain : x.operand ≡ operand.Plain
  pub to : x.inst.rt ≡ stack_pointer
  pub from : x.inst.ra ≡ stack_pointer
  pub not_link : x.inst.rb ≢ link_register
  pub not_pointer : x.inst.rb ≢ stack_pointer
  pub at : ℕ
  pub held : Holds p f at x.inst.rb k i

-- the instruction at a place adds k to the stack pointer
pub record IsKnownWrite (p : Prog) (f i : ℕ) (k : ℤ) : Type 0 where
  pub x : SymInst
  pub here : instruction_at p f i ≡ Some x
  pub form : AddsImmediate x k ⊎ AddsRegister p f i x k

-- what a place adds to the depth: -k for a known write, else 0
abbrev pub Adds : Prog → ℕ → ℕ → ℤ → Type 0
Adds p f i n = ((k : ℤ) × IsKnownWrite p f i k × (n ≡ pos 0 -ℤ k)) ⊎ (((k : ℤ) → IsKnownWrite p f i k → ⊥) × (n ≡ pos 0))

-- ---- walks

-- a walk to place i that has left these places, the last one first
unfoldable pub IsWalk : Prog → ℕ → ℕ → List ℕ → Type 0
IsWalk p f i [] = i ≡ 0
IsWalk p f i (j ∷ js) = Follows p f j i × IsWalk p f j js

-- n is the sum of what the places add
unfoldable pub IsDepth : Prog → ℕ → List ℕ → ℤ → Type 0
IsDepth p f [] n = n ≡ pos 0
IsDepth p f (j ∷ js) n = (m : ℤ) × IsDepth p f js m × (c : ℤ) × Adds p f j c × (n ≡ m +ℤ c)

-- a walk of f reaches place i, where an instruction stands, with depth n
pub record Reaches (p : Prog) (f i : ℕ) (n : ℤ) : Type 0 where
  pub here : IsPlace p f i
  pub left : List ℕ
  pub walk : IsWalk p f i left
  pub depth : IsDepth p f left n
