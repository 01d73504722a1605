-- What holds of each state of a symbolic run, said of the symbolic machine alone: labels in a state are of taken
-- functions and places; the open calls lie on a path of the call graph from the entry, each entry pointer by the depth
-- at its call; and the stack pointer is the innermost entry pointer less the depth of the place.
use Rattle.std.specs.Prelude.{◌≡◌, ◌≢◌, ℕ, ◌+◌, ◌<◌, ◌≤◌, List, [], ◌∷◌, length, Some, ℤ, pos, ◌-ℤ◌}
use Rattle.std.specs.List.{Contains}
use Rattle.spu_word.specs.declared.limits.TheConstants.{QUAD_SIZE, STACK_TOP}
use Rattle.spu_exec.specs.Lanes.{immediate}
use Rattle.spu_lift.specs.declared.program.SymInst.{SymInst}
use Rattle.spu_lift.specs.declared.program.Prog.{Prog}
use Rattle.spu_lift.specs.declared.program.Label.{Label}
use Rattle.spu_lift.specs.declared.program.Label.TheVariants.{Fun, Place, Link}
use Rattle.spu_lift.specs.declared.symbolic.SymByte.{SymByte}
use Rattle.spu_lift.specs.declared.symbolic.SymByte.TheVariants.{Num, Part, Unknown}
use Rattle.spu_ideal.specs.Bytes.{sym_at, known_word, size_of}
use Rattle.spu_lift.specs.Places.{instruction_at, taken_places, stack_pointer}
use Rattle.spu_frame.specs.Walks.{Holds, Reaches}
use Rattle.spu_graph.specs.declared.graph.Edge.{Edge}
use Rattle.spu_graph.specs.Paths.{IsPath}
pub use Rattle.spu_judge.specs.Judged.{IsJudged}
use Rattle.spu_ideal.specs.Edges.{Calls, IsJumpEdge}
use Rattle.spu_ideal.specs.declared.state.OpenCall.{OpenCall}
use Rattle.spu_ideal.specs.State.{Sym}

-- ---- labels

-- i is the place after a place of f, which may be one past the last
pub record IsAfter (p : Prog) (f i : ℕ) : Type 0 where
  pub at : ℕ
  pub x : SymInst
  pub here : instruction_at p f at ≡ Some x
  pub next : i ≡ at + 1

-- a function and a place that a label names are taken, and a link is of a place after another
abbrev pub IsTakenLabel : Prog → Label → Type 0
IsTakenLabel p (Fun f) = Contains p.taken f
IsTakenLabel p (Place f i) = Contains (taken_places p f) i
IsTakenLabel p (Link f i) = IsAfter p f i

-- and of a label there are as many parts as it has bytes
abbrev pub IsTaken : Prog → SymByte → Type 0
IsTaken p (Num v) = Unit {0}
IsTaken p (Part l k) = IsTakenLabel p l × (k < size_of l)
IsTaken p Unknown = Unit {0}

pub record IsQuad (p : Prog) (quad : List SymByte) : Type 0 where
  pub whole : length quad ≡ QUAD_SIZE
  pub taken : (k : ℕ) → k < QUAD_SIZE → IsTaken p (sym_at quad k)

-- ---- open calls

-- an open call of a function at whose entry the stack pointer is `entry`, and which runs g now; `outer` is the entry
-- pointer of the caller
pub record IsOpen (p : Prog) (c : OpenCall) (g entry outer : ℕ) : Type 0 where
  pub function : g ≢ 0
  pub pointer : c.pointer ≡ Some entry
  -- the return place follows a reached place that calls
  pub at : ℕ
  pub next : c.i ≡ at + 1
  pub depth : ℤ
  pub reached : Reaches p c.f at depth
  pub x : SymInst
  pub here : instruction_at p c.f at ≡ Some x
  pub callee : ℕ
  pub call : Calls p x callee
  -- and jumps lead from the function called to g
  pub jumps : List Edge
  pub path : IsPath (IsJumpEdge p) callee g jumps
  -- the entry pointer is the caller's less the depth at the call
  pub falls : pos entry ≡ pos outer -ℤ depth

-- the open calls, the innermost first, where function g runs with this entry pointer
unfoldable pub IsChain : Prog → List OpenCall → ℕ → ℕ → Type 0
IsChain p [] g entry = (g ≡ 0) × (entry ≡ STACK_TOP)
IsChain p (c ∷ cs) g entry = (outer : ℕ) × IsOpen p c g entry outer × IsChain p cs c.f outer

-- ---- states

pub record IsOf (p : Prog) (s : Sym) : Type 0 where
  pub labels : (r : ℕ) → IsQuad p (s.regs r)
  pub stored : (a : ℕ) → IsTaken p (s.store a)
  pub entry : ℕ
  pub chain : IsChain p s.calls s.f entry
  -- an instruction stands at the place; the start code runs from its place 1 on
  pub placed : (x : SymInst) × (instruction_at p s.f s.i ≡ Some x)
  pub begun : s.f ≡ 0 → s.i ≡ 0 → ⊥
  pub depth : ℤ
  pub reached : Reaches p s.f s.i depth
  -- word 0 of the stack pointer
  pub word : ℕ
  pub pointer : known_word (s.regs stack_pointer) 0 ≡ Some word
  pub falls : pos word ≡ pos entry -ℤ depth
  -- what an `il` has left for a write of the stack pointer
  pub held : (h r j : ℕ) (k : ℤ) → Holds p s.f h r k j → h < s.i → s.i ≤ j → known_word (s.regs r) 0 ≡ Some (immediate 4 k)
