-- The graph that is made of a program: its functions, and one node more, of no frame, through which all goes that leads by
-- pointers. A call or a jump by a pointer leads there, and from there a jump leads to each taken function. So a program has no more
-- edges than places and taken functions. No clause of a public call cites this.
use Rattle.std.specs.Prelude.{◌≡◌, ℕ, ◌==◌, ◌⊎◌, Bool, true, false, if◌then◌else◌, List, [], ◌∷◌, map, length, nat_lt, Option, Some, None, ℤ}
use Rattle.std.specs.List.{Contains, filter}
use Rattle.spu_isa.specs.declared.operation.Kind.{Kind}
use Rattle.spu_isa.specs.declared.operation.Kind.TheVariants as kind
use Rattle.spu_lift.specs.declared.program.Operand.{Operand}
use Rattle.spu_lift.specs.declared.program.Operand.TheVariants as operand
use Rattle.spu_lift.specs.declared.program.SymInst.{SymInst}
use Rattle.spu_lift.specs.declared.program.Prog.{Prog}
use Rattle.spu_lift.specs.Places.{instruction_at, taken_places, kind_of, link_register}
use Rattle.spu_frame.specs.Walks.{Reaches}
use Rattle.spu_graph.specs.declared.graph.Edge.{Edge}
use Rattle.spu_graph.specs.declared.fault.GraphFault.{GraphFault}
use Rattle.spu_graph.specs.declared.fault.GraphFault.TheVariants as faults
use Rattle.spu_graph.specs.Paths.{IsRecursive}
use Rattle.spu_graph.specs.Cycles.{IsCycle}
use Rattle.spu_judge.specs.Edges.{IsEdge}

-- the node through which pointers lead
abbrev pub pointer_node : Prog → ℕ
pointer_node p = length p.functions

abbrev pub edge_between : ℕ → ℕ → Bool → Edge
edge_between f g call = record { from = f; to = g; call = call }

-- the edge of an instruction of function f, by its kind: of a call, of a jump, and of a jump by a pointer
abbrev pub call_edge : ℕ → Operand → Option Edge
call_edge f operand.Plain = None
call_edge f (operand.Number n) = None
call_edge f (operand.Address l) = None
call_edge f (operand.Call g) = Some (edge_between f g true)
call_edge f (operand.Jump g) = None
call_edge f (operand.Branch j) = None

abbrev pub jump_edge : ℕ → Operand → Option Edge
jump_edge f operand.Plain = None
jump_edge f (operand.Number n) = None
jump_edge f (operand.Address l) = None
jump_edge f (operand.Call g) = None
jump_edge f (operand.Jump g) = Some (edge_between f g false)
jump_edge f (operand.Branch j) = None

abbrev pub pointer_edge : Prog → ℕ → ℕ → List ℕ → Option Edge
pointer_edge p f ra (j ∷ js) = None
pointer_edge p f ra [] = if ra == link_register then None else Some (edge_between f (pointer_node p) false)

abbrev pub edge_by : Kind → Prog → ℕ → SymInst → Option Edge
edge_by kind.Call p f x = call_edge f x.operand
edge_by kind.Branch p f x = jump_edge f x.operand
edge_by kind.PointerCall p f x = Some (edge_between f (pointer_node p) true)
edge_by kind.Indirect p f x = pointer_edge p f x.inst.ra (taken_places p f)
edge_by _ p f x = None

abbrev pub edge_of : Prog → ℕ → SymInst → Option Edge
edge_of p f x = edge_by (kind_of x) p f x

-- the edge of a reached place of f
pub record IsOut (p : Prog) (f at : ℕ) (e : Edge) : Type 0 where
  pub depth : ℤ
  pub reached : Reaches p f at depth
  pub x : SymInst
  pub here : instruction_at p f at ≡ Some x
  pub leads : edge_of p f x ≡ Some e

-- a jump from the node of pointers to a taken function
abbrev pub IsIn : Prog → Edge → Type 0
IsIn p e = (e.from ≡ pointer_node p) × (e.call ≡ false) × Contains p.taken e.to

-- an edge of the graph that is made
abbrev pub IsMade : Prog → Edge → Type 0
IsMade p e = ((f : ℕ) × (at : ℕ) × IsOut p f at e) ⊎ IsIn p e

-- what is known of the edge of a place, if there is one
abbrev pub IsEdgeOf : Prog → ℕ → ℕ → Option Edge → Type 0
IsEdgeOf p f at None = (e : Edge) → IsOut p f at e → ⊥
IsEdgeOf p f at (Some e) = IsOut p f at e × ((d : Edge) → IsOut p f at d → d ≡ e)

abbrev pub listed : Option Edge → List Edge
listed None = []
listed (Some e) = e ∷ []

-- the edges are those from before, and those of Q
pub record AreMore (Q : Edge → Type 0) (before edges : List Edge) : Type 0 where
  pub kept : (e : Edge) → Contains before e → Contains edges e
  pub each : (e : Edge) → Q e → Contains edges e
  pub no_other : (e : Edge) → Contains edges e → Contains before e ⊎ Q e

-- the jumps from the node of pointers to these functions
abbrev pub jumps_to : Prog → List ℕ → List Edge
jumps_to p gs = map (λ g. edge_between (pointer_node p) g false) gs

-- the functions among nodes
abbrev pub functions_among : Prog → List ℕ → List ℕ
functions_among p nodes = filter (λ g. nat_lt g (length p.functions)) nodes

-- what a fault of the graph says of the program
abbrev pub IsGraphRefused : Prog → GraphFault → Type 0
IsGraphRefused p (faults.Recursion nodes) = IsRecursive (IsEdge p) p.entry × IsCycle (IsEdge p) p.entry (functions_among p nodes)
IsGraphRefused p faults.OutOfMemory = Unit {0}
