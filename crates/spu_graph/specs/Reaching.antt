-- Functions that paths from an entry reach.
use Rattle.std.specs.Prelude.{◌≡◌, ℕ, ◌≤◌, ◌⊎◌, Bool, true, false, List, [], ◌∷◌, ◌++◌, length, slice_set, Some, slice_get}
use Rattle.std.specs.List.{Contains}
use Rattle.spu_word.specs.Lists.{stands_on}
use Rattle.spu_graph.specs.declared.graph.Edge.{Edge}
use Rattle.spu_graph.specs.Paths.{IsPath}

-- the marked functions are reached; each edge of one leads to a marked one, unless it is among those left, or its
-- function stands at a place from `told` on
pub record IsReaching (n : ℕ) (edges : List Edge) (entry : ℕ) (marks : List Bool) (order : List ℕ) (told : ℕ) (left : List ℕ) : Type 0 where
  pub all : length marks ≡ n
  pub begins : slice_get marks entry ≡ Some true
  pub ordered : (i f : ℕ) → slice_get order i ≡ Some f → slice_get marks f ≡ Some true
  pub placed : (f : ℕ) → slice_get marks f ≡ Some true → (i : ℕ) × (slice_get order i ≡ Some f)
  pub once : (i j f : ℕ) → slice_get order i ≡ Some f → slice_get order j ≡ Some f → i ≡ j
  pub paths : (f : ℕ) → slice_get marks f ≡ Some true → (xs : List Edge) × IsPath (Contains edges) entry f xs
  pub leads : (i k : ℕ) (x : Edge) → slice_get edges k ≡ Some x → slice_get order i ≡ Some x.from → (slice_get marks x.to ≡ Some true) ⊎ ((told ≤ i) ⊎ (stands_on left k ≡ true))
  pub told_within : told ≤ length order

-- f was marked, or it is now, at the end of the order
abbrev pub IsVisited : List Bool → List ℕ → ℕ → List Bool → List ℕ → Type 0
IsVisited marks order f new_marks new_order =
    ((slice_get marks f ≡ Some true) × (new_marks ≡ marks) × (new_order ≡ order))
    ⊎ ((slice_get marks f ≡ Some false) × (new_marks ≡ slice_set marks f true) × (new_order ≡ order ++ f ∷ []))

-- the marked functions are those that a path from the entry reaches
pub record AreReached (n : ℕ) (edges : List Edge) (entry : ℕ) (marks : List Bool) : Type 0 where
  pub all : length marks ≡ n
  pub some : (f : ℕ) → slice_get marks f ≡ Some true → (xs : List Edge) × IsPath (Contains edges) entry f xs
  pub each : (f : ℕ) (xs : List Edge) → IsPath (Contains edges) entry f xs → slice_get marks f ≡ Some true
