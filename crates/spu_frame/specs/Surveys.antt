-- What the private steps of `frames` find in one function. No clause of a public call cites these.
use Rattle.std.specs.Prelude.{◌≡◌, ◌≢◌, ℕ, suc, ◌+◌, ◌-◌, ◌*◌, ◌^◌, ◌<◌, ◌≤◌, ◌⊎◌, max, Bool, true, false, List, [], ◌∷◌, length, Option, Some, None, slice_get, slice_set, MatchOption, ℤ, pos, ◌+ℤ◌, ◌-ℤ◌, ◌≤ℤ◌}
use Rattle.std.specs.List.{Contains}
use Rattle.spu_word.specs.declared.limits.TheConstants.{REGISTER_COUNT}
use Rattle.spu_word.specs.Lists.{stands_on}
use Rattle.spu_isa.specs.declared.operation.Op.TheVariants as op
use Rattle.spu_lift.specs.declared.program.Operand.{Operand}
use Rattle.spu_lift.specs.declared.program.Operand.TheVariants as operand
use Rattle.spu_lift.specs.declared.program.SymInst.{SymInst}
use Rattle.spu_lift.specs.declared.program.Prog.{Prog}
use Rattle.spu_lift.specs.Places.{instruction_at, taken_places, kind_of, link_register, stack_pointer, Writes, IsTarget}
use Rattle.spu_frame.specs.declared.faults.FrameKind.{FrameKind}
use Rattle.spu_frame.specs.declared.met.Met.{Met}
use Rattle.spu_frame.specs.declared.met.Met.TheVariants.{Never, Once, Twice}
use Rattle.spu_frame.specs.declared.survey.FunctionDepths.{FunctionDepths}
use Rattle.spu_frame.specs.declared.survey.Finding.{Finding}
use Rattle.spu_frame.specs.declared.survey.Finding.TheVariants.{Good, Faulty}
use Rattle.spu_frame.specs.Functions.{code_of}
use Rattle.spu_frame.specs.Walks.{GoesOn, Branches, IsPointerBranch, IsOf16, leads_away, Holds, IsKnownWrite, Reaches}
use Rattle.spu_frame.specs.Frames.{IsExit, IsDepthAt, IsDepthInRange, IsFrame}
use Rattle.spu_frame.specs.Faults.{IsFaulty, number_of}
use Rattle.spu_frame.specs.Found.{depth_in}

-- ---- known writes

-- marks of the targets of a function
pub record AreTargets (p : Prog) (f : ℕ) (marks : List Bool) : Type 0 where
  pub count : length marks ≡ length (code_of p f)
  pub yes : (j : ℕ) → slice_get marks j ≡ Some true → IsTarget p f j
  pub no : (j : ℕ) → slice_get marks j ≡ Some false → IsTarget p f j → ⊥

-- the marks with one more, for the target of a branch
abbrev pub with_target : List Bool → Operand → List Bool
with_target marks (operand.Branch j) = slice_set marks j true
with_target marks _ = marks

-- the field of x is k, a multiple of 16, and nothing stands for it
pub record IsPlainNumber (x : SymInst) (k : ℤ) : Type 0 where
  pub plain : x.operand ≡ operand.Plain
  pub number : x.inst.imm ≡ k
  pub aligned : IsOf16 k

-- the place that wrote a register last, from a place on, is an `il` of k
pub record IsLoaded (code : List SymInst) (writer : Option ℕ) (straight : ℕ) (k : ℤ) : Type 0 where
  pub at : ℕ
  pub last : writer ≡ Some at
  pub late : straight ≤ at
  pub x : SymInst
  pub here : slice_get code at ≡ Some x
  pub il : x.inst.op ≡ op.Il
  pub load : IsPlainNumber x k

-- an addition of a register to the stack pointer; what that register was loaded with
pub record IsRegisterAddition (x : SymInst) : Type 0 where
  pub a : x.inst.op ≡ op.A
  pub to : x.inst.rt ≡ stack_pointer
  pub from : x.inst.ra ≡ stack_pointer
  pub plain : x.operand ≡ operand.Plain
  pub not_link : x.inst.rb ≢ link_register
  pub not_pointer : x.inst.rb ≢ stack_pointer

pub record IsLoadAdded (code : List SymInst) (writers : List (Option ℕ)) (straight : ℕ) (x : SymInst) (k : ℤ) : Type 0 where
  pub is : IsRegisterAddition x
  pub writer : Option ℕ
  pub wrote : slice_get writers x.inst.rb ≡ Some writer
  pub load : IsLoaded code writer straight k

-- before place i: the place that wrote each register last, and the first place whose `il` can still hold
pub record IsScan (p : Prog) (f : ℕ) (writers : List (Option ℕ)) (straight i : ℕ) : Type 0 where
  pub count : length writers ≡ REGISTER_COUNT
  pub before : straight ≤ i
  pub wrote : (r h : ℕ) → slice_get writers r ≡ Some (Some h) → (h < i) × ((x : SymInst) × (instruction_at p f h ≡ Some x) × Writes x r)
  pub kept : (r h j : ℕ) (y : SymInst) → slice_get writers r ≡ Some (Some h) → h < j → j < i → instruction_at p f j ≡ Some y → Writes y r → ⊥
  pub never : (r j : ℕ) (y : SymInst) → slice_get writers r ≡ Some None → j < i → instruction_at p f j ≡ Some y → Writes y r → ⊥
  pub straight_on : (j : ℕ) (y : SymInst) → straight < j → j < i → instruction_at p f j ≡ Some y → leads_away (kind_of y) ≡ false
  pub alone : (j : ℕ) → straight < j → j ≤ i → IsTarget p f j → ⊥
  pub over : (h r : ℕ) (k : ℤ) → h < straight → Holds p f h r k i → ⊥

-- what each place adds to the stack pointer, None where it is no known write
pub record AreKnown (p : Prog) (f : ℕ) (known : List (Option ℤ)) : Type 0 where
  pub count : length known ≡ length (code_of p f)
  pub some : (i : ℕ) (k : ℤ) → slice_get known i ≡ Some (Some k) → IsKnownWrite p f i k
  pub none : (i : ℕ) (k : ℤ) → slice_get known i ≡ Some None → IsKnownWrite p f i k → ⊥

-- ---- depths that spread over nodes: the places, and one more behind them for the indirect branches on other registers

abbrev pub met_in : Option Met → Met
met_in None = Never
met_in (Some m) = m

abbrev pub met_at : List Met → ℕ → Met
met_at met i = met_in (slice_get met i)

-- n is one of the depths; there are two
abbrev pub Keeps : Met → ℤ → Type 0
Keeps Never n = ⊥
Keeps (Once d) n = d ≡ n
Keeps (Twice d e) n = (d ≡ n) ⊎ (e ≡ n)

abbrev pub IsTwice : Met → Type 0
IsTwice Never = ⊥
IsTwice (Once d) = ⊥
IsTwice (Twice d e) = Unit {0}

abbrev pub Covers : Met → ℤ → Type 0
Covers m n = Keeps m n ⊎ IsTwice m

abbrev pub less : Met → ℤ → Met
less Never k = Never
less (Once d) k = Once (d -ℤ k)
less (Twice d e) k = Twice (d -ℤ k) (e -ℤ k)

abbrev pub met_behind : Met → Option ℤ → Met
met_behind m None = m
met_behind m (Some k) = less m k

abbrev pub amount_in : Option (Option ℤ) → Option ℤ
amount_in None = None
amount_in (Some o) = o

-- the depths behind node i
abbrev pub behind_node : List (Option ℤ) → List Met → ℕ → Met
behind_node known met i = met_behind (met_at met i) (amount_in (slice_get known i))

-- how many depths the nodes can still take
abbrev pub room_of : Met → ℕ
room_of Never = 2
room_of (Once d) = 1
room_of (Twice d e) = 0

abbrev pub room : List Met → ℕ
room [] = 0
room (m ∷ ms) = room_of m + room ms

-- these depths were handed to these nodes, which wait if that brought them anything
pub record Hands (To : ℕ → Type 0) (given : Met) (met : List Met) (waiting : List ℕ) (new_met : List Met) (new_waiting : List ℕ) : Type 0 where
  pub count : length new_met ≡ length met
  pub there : (k : ℕ) (n : ℤ) → To k → Keeps given n → Covers (met_at new_met k) n
  pub covers : (k : ℕ) (n : ℤ) → Covers (met_at met k) n → Covers (met_at new_met k) n
  pub source : (k : ℕ) (n : ℤ) → Keeps (met_at new_met k) n → Keeps (met_at met k) n ⊎ (To k × Keeps given n × (room new_met < room met))
  pub still : (k : ℕ) → stands_on new_waiting k ≡ false → (stands_on waiting k ≡ false) × (met_at new_met k ≡ met_at met k)
  pub apart : (k : ℕ) (d e : ℤ) → met_at new_met k ≡ Twice d e → (met_at met k ≡ Twice d e) ⊎ (d ≢ e)
  pub work : length new_waiting + room new_met ≤ length waiting + room met
  pub fewer : room new_met ≤ room met

-- the ways between nodes
pub record PointsAt (p : Prog) (f i j : ℕ) : Type 0 where
  pub x : SymInst
  pub here : instruction_at p f i ≡ Some x
  pub branch : IsPointerBranch x
  pub last : j ≡ length (code_of p f)

abbrev pub IsTakenFrom : Prog → ℕ → ℕ → ℕ → Type 0
IsTakenFrom p f i j = (i ≡ length (code_of p f)) × Contains (taken_places p f) j

abbrev pub IsWay : Prog → ℕ → ℕ → ℕ → Type 0
IsWay p f i j = (GoesOn p f i j ⊎ Branches p f i j) ⊎ (PointsAt p f i j ⊎ IsTakenFrom p f i j)

-- a walk comes to an indirect branch on another register with depth n
pub record IsPointed (p : Prog) (f : ℕ) (n : ℤ) : Type 0 where
  pub at : ℕ
  pub reached : Reaches p f at n
  pub x : SymInst
  pub here : instruction_at p f at ≡ Some x
  pub branch : IsPointerBranch x

-- a walk comes to the node with depth n
abbrev pub Comes : Prog → ℕ → ℕ → ℤ → Type 0
Comes p f i n = Reaches p f i n ⊎ ((i ≡ length (code_of p f)) × IsPointed p f n)

-- no depth is further from 0
abbrev pub farthest : List Met → ℕ
farthest met = 2 ^ 15 * (2 * length met - room met)

abbrev pub IsWithin : ℤ → ℕ → Type 0
IsWithin n most = (pos 0 ≤ℤ (n +ℤ pos most)) × (n ≤ℤ pos most)

-- depths spread over the nodes: each came by a walk, and each node that doesn't wait has handed on what it has
pub record IsSpread (p : Prog) (f : ℕ) (known : List (Option ℤ)) (met : List Met) (waiting : List ℕ) : Type 0 where
  pub count : length met ≡ suc (length (code_of p f))
  pub come : (i : ℕ) (n : ℤ) → Keeps (met_at met i) n → Comes p f i n
  pub begins : Covers (met_at met 0) (pos 0)
  pub closed : (i j : ℕ) (n : ℤ) → stands_on waiting i ≡ false → IsWay p f i j → Keeps (behind_node known met i) n → Covers (met_at met j) n
  pub apart : (i : ℕ) (d e : ℤ) → met_at met i ≡ Twice d e → d ≢ e
  pub small : (i : ℕ) (n : ℤ) → Keeps (met_at met i) n → IsWithin n (farthest met)

-- the depths of the walks that come to each place, of which two are kept at most
pub record AreMet (p : Prog) (f : ℕ) (met : List Met) : Type 0 where
  pub count : length met ≡ suc (length (code_of p f))
  pub come : (i : ℕ) (n : ℤ) → i < length (code_of p f) → Keeps (met_at met i) n → Reaches p f i n
  pub all : (i : ℕ) (n : ℤ) → Reaches p f i n → Covers (met_at met i) n
  pub apart : (i : ℕ) (d e : ℤ) → met_at met i ≡ Twice d e → d ≢ e
  pub small : (i : ℕ) (n : ℤ) → Keeps (met_at met i) n → IsWithin n (2 ^ 40)

-- ---- what is found

-- the first place that has a flaw, if there is one
abbrev pub IsFirst : (ℕ → Type 0) → Option ℕ → Type 0
IsFirst Flawed o = MatchOption o ((j : ℕ) → Flawed j → ⊥) (λ i. Flawed i × ((j : ℕ) → j < i → Flawed j → ⊥))

-- no walks come to a place with different depths
abbrev pub AreSingle : Prog → ℕ → List Met → Type 0
AreSingle p f met = (i : ℕ) → i < length (code_of p f) → IsTwice (met_at met i) → ⊥

-- a function's writes of the stack pointer are known; its depth is 0 at its exits; its depths are in range
abbrev pub KnowsWrites : Prog → ℕ → Type 0
KnowsWrites p f = (i : ℕ) (x : SymInst) → f ≢ 0 → instruction_at p f i ≡ Some x → Writes x stack_pointer → (k : ℤ) × IsKnownWrite p f i k

abbrev pub IsLevel : Prog → ℕ → Type 0
IsLevel p f = (i : ℕ) (n : ℤ) (x : SymInst) → Reaches p f i n → instruction_at p f i ≡ Some x → IsExit p f x → n ≡ pos 0

abbrev pub IsInRange : Prog → ℕ → Type 0
IsInRange p f = (i : ℕ) (n : ℤ) → IsDepthAt p f i n → IsDepthInRange n

-- of one depth: it isn't 0; it is in range; it is the number
abbrev pub IsDeep : Met → Type 0
IsDeep Never = ⊥
IsDeep (Once d) = d ≢ pos 0
IsDeep (Twice d e) = ⊥

abbrev pub IsMetInRange : Met → Type 0
IsMetInRange Never = Unit {0}
IsMetInRange (Once d) = IsDepthInRange d
IsMetInRange (Twice d e) = Unit {0}

abbrev pub IsDepthOf : Met → Option ℕ → Type 0
IsDepthOf Never o = o ≡ None
IsDepthOf (Once d) o = (n : ℕ) × (o ≡ Some n) × (d ≡ pos n)
IsDepthOf (Twice d e) o = o ≡ None

abbrev pub deeper : ℕ → Option ℕ → ℕ
deeper frame None = frame
deeper frame (Some d) = max frame d

-- good depths of one function
pub record AreDepthsIn (p : Prog) (f : ℕ) (d : FunctionDepths) : Type 0 where
  pub known : KnowsWrites p f
  pub agreed : (i : ℕ) (n m : ℤ) → Reaches p f i n → Reaches p f i m → n ≡ m
  pub level : IsLevel p f
  pub range : IsInRange p f
  pub some : (i n : ℕ) → depth_in (slice_get d.depths i) ≡ Some n → Reaches p f i (pos n)
  pub none : (i : ℕ) (n : ℤ) → depth_in (slice_get d.depths i) ≡ None → Reaches p f i n → ⊥
  pub greatest : IsFrame p f d.frame

-- the least fault of one function, at its first place
pub record IsFaultIn (p : Prog) (f : ℕ) (kind : FrameKind) (i : ℕ) : Type 0 where
  pub here : IsFaulty kind p f i
  pub within : i < length (code_of p f)
  pub least : (other : FrameKind) (j : ℕ) → number_of other < number_of kind → IsFaulty other p f j → ⊥
  pub first : (j : ℕ) → j < i → IsFaulty kind p f j → ⊥

abbrev pub IsFinding : Prog → ℕ → Finding → Type 0
IsFinding p f (Good d) = AreDepthsIn p f d
IsFinding p f (Faulty kind i) = IsFaultIn p f kind i
