-- Cycles of a call graph, and what the refusal of a graph means.
use Rattle.std.specs.Prelude.{◌≡◌, ℕ, List, [], ◌∷◌, ◌++◌}
use Rattle.spu_graph.specs.declared.graph.Edge.{Edge}
use Rattle.spu_graph.specs.declared.fault.GraphFault.{GraphFault}
use Rattle.spu_graph.specs.declared.fault.GraphFault.TheVariants as faults
use Rattle.spu_graph.specs.Paths.{IsPath, IsRecursive}

-- an edge from f to g
pub record Leads (E : Edge → Type 0) (f g : ℕ) : Type 0 where
  pub edge : Edge
  pub is : E edge
  pub from : edge.from ≡ f
  pub to : edge.to ≡ g

-- each function of the list has an edge to the one behind it
abbrev pub IsChain : (Edge → Type 0) → List ℕ → Type 0
IsChain E [] = Unit {0}
IsChain E (f ∷ []) = Unit {0}
IsChain E (f ∷ g ∷ gs) = Leads E f g × IsChain E (g ∷ gs)

-- a cycle: each member has an edge to the next one, and the last to the first, to which a path from e leads
abbrev pub IsCycle : (Edge → Type 0) → ℕ → List ℕ → Type 0
IsCycle E e [] = ⊥
IsCycle E e (f ∷ fs) = IsChain E ((f ∷ fs) ++ f ∷ []) × ((xs : List Edge) × IsPath E e f xs)

-- a graph is refused for recursion only where it is recursive from e, and a cycle shows it
abbrev pub IsRefused : (Edge → Type 0) → ℕ → GraphFault → Type 0
IsRefused E e (faults.Recursion members) = IsRecursive E e × IsCycle E e members
IsRefused E e faults.OutOfMemory = Unit {0}
