-- A walk over functions that are not done: what holds between its steps. No clause of a public call cites this.
use Rattle.std.specs.Prelude.{◌≡◌, ℕ, List, [], ◌∷◌, ◌++◌, length, Option, Some, None, slice_get}
use Rattle.std.specs.List.{Contains}
use Rattle.spu_graph.specs.declared.graph.Edge.{Edge}
use Rattle.spu_graph.specs.Cycles.{IsChain}

-- the walk went over the functions of `path`, each at its index, and stands at f
pub record IsTrace (frames : List ℕ) (edges : List Edge) (needs : List (Option ℕ)) (entry : ℕ) (path : List ℕ) (indices : List (Option ℕ)) (f : ℕ) : Type 0 where
  pub all : length indices ≡ length frames
  pub begins : slice_get (path ++ f ∷ []) 0 ≡ Some entry
  pub joined : IsChain (Contains edges) (path ++ f ∷ [])
  pub undone : (i g : ℕ) → slice_get (path ++ f ∷ []) i ≡ Some g → slice_get needs g ≡ Some None
  pub marked : (i g : ℕ) → slice_get path i ≡ Some g → slice_get indices g ≡ Some (Some i)
  pub found : (g i : ℕ) → slice_get indices g ≡ Some (Some i) → slice_get path i ≡ Some g
