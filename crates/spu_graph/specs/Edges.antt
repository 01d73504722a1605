-- The edges of a graph by number: those that leave a function, and those that enter it.
use Rattle.std.specs.Prelude.{◌≡◌, ℕ, suc, ◌<◌, ◌==◌, if◌then◌else◌, List, [], ◌∷◌, Option, Some, None, slice_get}
use Rattle.spu_graph.specs.declared.graph.Edge.{Edge}

abbrev pub source : Edge → ℕ
source x = x.from

abbrev pub target : Edge → ℕ
target x = x.to

-- the numbers, from k on, of the edges whose end is f
abbrev pub numbers : (Edge → ℕ) → ℕ → ℕ → List Edge → List ℕ
numbers end f k [] = []
numbers end f k (x ∷ xs) = if end x == f then k ∷ numbers end f (suc k) xs else numbers end f (suc k) xs

unfoldable pub leaving : List Edge → ℕ → List ℕ
leaving edges f = numbers source f 0 edges

unfoldable pub entering : List Edge → ℕ → List ℕ
entering edges f = numbers target f 0 edges

-- what is left of a list from an element on
abbrev pub rest_from : List ℕ → ℕ → List ℕ
rest_from [] e = []
rest_from (x ∷ xs) e = if x == e then x ∷ xs else rest_from xs e

abbrev pub rest_of : List ℕ → Option ℕ → List ℕ
rest_of xs None = []
rest_of xs (Some e) = rest_from xs e

-- the edges are those of n functions, and the lists hold them
pub record IsGraph (n : ℕ) (edges : List Edge) (calls callers : ℕ → List ℕ) : Type 0 where
  pub from : (k : ℕ) (x : Edge) → slice_get edges k ≡ Some x → x.from < n
  pub to : (k : ℕ) (x : Edge) → slice_get edges k ≡ Some x → x.to < n
  pub leave : (f : ℕ) → calls f ≡ leaving edges f
  pub enter : (f : ℕ) → callers f ≡ entering edges f
