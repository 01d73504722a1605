-- Call graphs, and the stack that a function needs with all that it calls: edges between functions by
-- calls and by jumps, paths along edges, their weights, the greatest of them, and recursion. These are
-- the usual terms of graphs, where a call keeps its caller's frame and a jump doesn't. For a list of
-- edges, E is `Contains edges`.
use Rattle.std.specs.Prelude.{◌≡◌, ℕ, ◌+◌, ◌<◌, ◌≤◌, Bool, true, false, List, [], ◌∷◌, map, length, slice_index}
pub use Rattle.spu_graph.specs.declared.graph.Edge.{Edge}

-- a path from e to g by these edges, the last one first
unfoldable pub IsPath : (Edge → Type 0) → ℕ → ℕ → List Edge → Type 0
IsPath E e g [] = e ≡ g
IsPath E e g (x ∷ xs) = E x × (x.to ≡ g) × IsPath E e x.from xs

-- the frame of the caller of a call edge, and 0 for a jump edge
abbrev pub weight_if : Bool → ℕ → ℕ
weight_if true n = n
weight_if false n = 0

-- the sum over the edges
unfoldable pub edges_weight : (ℕ → ℕ) → List Edge → ℕ
edges_weight frame [] = 0
edges_weight frame (x ∷ xs) = weight_if x.call (frame x.from) + edges_weight frame xs

-- the weight of a path to g: that of its edges, and the frame of its last function
abbrev pub weight : (ℕ → ℕ) → ℕ → List Edge → ℕ
weight frame g edges = edges_weight frame edges + frame g

-- the greatest weight of a path that begins at e
pub record IsNeed (E : Edge → Type 0) (frame : ℕ → ℕ) (e need : ℕ) : Type 0 where
  pub last : ℕ
  pub edges : List Edge
  pub path : IsPath E e last edges
  pub reached : weight frame last edges ≡ need
  pub most : (g : ℕ) (xs : List Edge) → IsPath E e g xs → weight frame g xs ≤ need

-- the functions of a path to g, the last one first
abbrev pub functions_on : ℕ → List Edge → List ℕ
functions_on g edges = g ∷ map (λ x. x.from) edges

-- some path from e contains a function twice
pub record IsRecursive (E : Edge → Type 0) (e : ℕ) : Type 0 where
  pub last : ℕ
  pub edges : List Edge
  pub path : IsPath E e last edges
  pub i : ℕ
  pub j : ℕ
  pub apart : i < j
  pub within : j < length (functions_on last edges)
  pub same : slice_index (functions_on last edges) i ≡ slice_index (functions_on last edges) j
