-- The needs that are handed back.
use Rattle.std.specs.Prelude.{◌≡◌, ℕ, Bool, true, List, Option, Some, None, slice_get}
use Rattle.spu_graph.specs.declared.graph.Edge.{Edge}
use Rattle.spu_graph.specs.declared.needed.Needs.{Needs}
use Rattle.spu_graph.specs.Paths.{IsPath, IsNeed}

abbrev pub needed_by : Option Bool → Option (Option ℕ) → Option ℕ
needed_by (Some true) (Some o) = o
needed_by _ _ = None

-- the need of f: what is known of it, where it is marked
abbrev pub needed : List (Option ℕ) → List Bool → ℕ → Option ℕ
needed known marks f = needed_by (slice_get marks f) (slice_get known f)

-- what these needs say of a function
abbrev pub need_of : Needs → ℕ → Option ℕ
need_of n = needed n.known.items n.marks.items

-- the need of each function, over these edges: None exactly where no path from the entry reaches it, else the greatest
-- weight of a path that begins at it
pub record AreNeeds (E : Edge → Type 0) (frame : ℕ → ℕ) (entry : ℕ) (need_from : ℕ → Option ℕ) : Type 0 where
  pub need : (f v : ℕ) → need_from f ≡ Some v → IsNeed E frame f v
  pub some : (f v : ℕ) → need_from f ≡ Some v → (xs : List Edge) × IsPath E entry f xs
  pub none : (f : ℕ) (xs : List Edge) → need_from f ≡ None → IsPath E entry f xs → ⊥
