-- Functions whose needs are known, and the edges that the others wait at.
use Rattle.std.specs.Prelude.{◌≡◌, ℕ, ◌+◌, ◌*◌, ◌<◌, ◌≤◌, ◌⊎◌, true, max, List, [], ◌∷◌, ◌++◌, length, slice_set, Option, Some, None, slice_get, slice_index}
use Rattle.std.specs.List.{Contains}
use Rattle.spu_word.specs.Lists.{stands_on}
use Rattle.spu_word.specs.declared.limits.TheConstants.{MAX_STACK_LIMIT}
use Rattle.spu_graph.specs.declared.graph.Edge.{Edge}
use Rattle.spu_graph.specs.Paths.{IsNeed, weight_if}
use Rattle.spu_graph.specs.Edges.{leaving, rest_of}

-- the callee of an edge isn't done; or it is, and needs v
pub record IsOpen (edges : List Edge) (needs : List (Option ℕ)) (e : ℕ) : Type 0 where
  pub x : Edge
  pub here : slice_get edges e ≡ Some x
  pub none : slice_get needs x.to ≡ Some None

pub record IsClosed (edges : List Edge) (needs : List (Option ℕ)) (e : ℕ) : Type 0 where
  pub x : Edge
  pub here : slice_get edges e ≡ Some x
  pub v : ℕ
  pub some : slice_get needs x.to ≡ Some (Some v)

-- what an edge takes, with what its callee needs
abbrev pub known : Option (Option ℕ) → ℕ
known None = 0
known (Some None) = 0
known (Some (Some v)) = v

abbrev pub taken_by : List ℕ → List (Option ℕ) → Option Edge → ℕ
taken_by frames needs None = 0
taken_by frames needs (Some x) = weight_if x.call (slice_index frames x.from) + known (slice_get needs x.to)

-- the greatest of these
abbrev pub greatest_on : List ℕ → List (Option ℕ) → List Edge → List ℕ → ℕ
greatest_on frames needs edges [] = 0
greatest_on frames needs edges (e ∷ es) = max (taken_by frames needs (slice_get edges e)) (greatest_on frames needs edges es)

-- f waits at an edge e whose callee isn't done; or each of its edges, from one on, has a callee that is, and so has f
pub record Stays (edges : List Edge) (f : ℕ) (from : Option ℕ) (needs waits : List (Option ℕ)) (order : List ℕ) (new_needs new_waits : List (Option ℕ)) (new_order : List ℕ) : Type 0 where
  pub e : ℕ
  pub open_edge : IsOpen edges needs e
  pub on : stands_on (leaving edges f) e ≡ true
  pub passed : (k : ℕ) → stands_on (rest_of (leaving edges f) from) k ≡ true → IsClosed edges needs k ⊎ (stands_on (rest_of (leaving edges f) (Some e)) k ≡ true)
  pub needs_same : new_needs ≡ needs
  pub waits_so : new_waits ≡ slice_set waits f (Some e)
  pub order_same : new_order ≡ order

pub record IsFinished (frames : List ℕ) (edges : List Edge) (f : ℕ) (from : Option ℕ) (needs waits : List (Option ℕ)) (order : List ℕ) (new_needs new_waits : List (Option ℕ)) (new_order : List ℕ) : Type 0 where
  pub closed : (k : ℕ) → stands_on (rest_of (leaving edges f) from) k ≡ true → IsClosed edges needs k
  pub needs_so : new_needs ≡ slice_set needs f (Some (max (slice_index frames f) (greatest_on frames needs edges (leaving edges f))))
  pub waits_same : new_waits ≡ waits
  pub order_so : new_order ≡ order ++ f ∷ []

abbrev pub IsSettled : List ℕ → List Edge → ℕ → Option ℕ → List (Option ℕ) → List (Option ℕ) → List ℕ → List (Option ℕ) → List (Option ℕ) → List ℕ → Type 0
IsSettled frames edges f from needs waits order new_needs new_waits new_order =
    Stays edges f from needs waits order new_needs new_waits new_order ⊎ IsFinished frames edges f from needs waits order new_needs new_waits new_order

-- ---- what holds while functions are peeled

-- the edge e waits to be told: its callee is done, at a place from `told` on in the order, or it is g and e is among those left
pub record IsDue (edges : List Edge) (order : List ℕ) (told g : ℕ) (left : List ℕ) (e : ℕ) : Type 0 where
  pub x : Edge
  pub here : slice_get edges e ≡ Some x
  pub due : ((j : ℕ) × (told ≤ j) × (slice_get order j ≡ Some x.to)) ⊎ ((x.to ≡ g) × (stands_on left e ≡ true))

-- f waits at an edge; those that it has passed have callees that are done
pub record Waits (edges : List Edge) (needs waits : List (Option ℕ)) (order : List ℕ) (told g : ℕ) (left : List ℕ) (f : ℕ) : Type 0 where
  pub e : ℕ
  pub at : slice_get waits f ≡ Some (Some e)
  pub on : stands_on (leaving edges f) e ≡ true
  pub passed : (k : ℕ) → stands_on (leaving edges f) k ≡ true → IsClosed edges needs k ⊎ (stands_on (rest_of (leaving edges f) (Some e)) k ≡ true)
  pub state : IsOpen edges needs e ⊎ IsDue edges order told g left e

-- the functions below `begun` have begun, and all of them but one wait or are done
pub record IsPeeling (frames : List ℕ) (edges : List Edge) (needs waits : List (Option ℕ)) (order : List ℕ) (begun : ℕ) (but : Option ℕ) (told g : ℕ) (left : List ℕ) : Type 0 where
  pub needs_all : length needs ≡ length frames
  pub waits_all : length waits ≡ length frames
  pub done : (f v : ℕ) → slice_get needs f ≡ Some (Some v) → IsNeed (Contains edges) (slice_index frames) f v
  pub small : (f v : ℕ) → slice_get needs f ≡ Some (Some v) → v ≤ MAX_STACK_LIMIT * length order
  pub later : (f : ℕ) → begun ≤ f → f < length frames → slice_get needs f ≡ Some None
  pub ordered : (i f : ℕ) → slice_get order i ≡ Some f → (v : ℕ) × (slice_get needs f ≡ Some (Some v))
  pub placed : (f v : ℕ) → slice_get needs f ≡ Some (Some v) → (i : ℕ) × (slice_get order i ≡ Some f)
  pub once : (i j f : ℕ) → slice_get order i ≡ Some f → slice_get order j ≡ Some f → i ≡ j
  pub falls : (i k : ℕ) (x : Edge) → slice_get edges k ≡ Some x → slice_get order i ≡ Some x.from → (j : ℕ) × (j < i) × (slice_get order j ≡ Some x.to)
  pub waiting : (f : ℕ) → f < begun → (but ≡ Some f → ⊥) → slice_get needs f ≡ Some None → Waits edges needs waits order told g left f
  pub told_within : told ≤ length order

-- what the peel leaves: needs of the done, in an order in which callees come first; each other function has an edge to another one
pub record IsPeeled (frames : List ℕ) (edges : List Edge) (needs : List (Option ℕ)) : Type 0 where
  pub all : length needs ≡ length frames
  pub done : (f v : ℕ) → slice_get needs f ≡ Some (Some v) → IsNeed (Contains edges) (slice_index frames) f v
  pub order : List ℕ
  pub ordered : (i f : ℕ) → slice_get order i ≡ Some f → (v : ℕ) × (slice_get needs f ≡ Some (Some v))
  pub placed : (f v : ℕ) → slice_get needs f ≡ Some (Some v) → (i : ℕ) × (slice_get order i ≡ Some f)
  pub once : (i j f : ℕ) → slice_get order i ≡ Some f → slice_get order j ≡ Some f → i ≡ j
  pub falls : (i k : ℕ) (x : Edge) → slice_get edges k ≡ Some x → slice_get order i ≡ Some x.from → (j : ℕ) × (j < i) × (slice_get order j ≡ Some x.to)
  pub others : (f : ℕ) → slice_get needs f ≡ Some None → (e : ℕ) × (stands_on (leaving edges f) e ≡ true) × IsOpen edges needs e
