-- Paths by their first edge, and the need of a function from the needs of its callees.
use Rattle.std.proofs.Common.{◌≡◌, ℕ, ◌+◌, ◌≤◌, ◌⊎◌, inl, inr, List, [], ◌∷◌, ◌++◌, refl, sym, ap, subst, arith}
use Rattle.spu_graph.specs.Paths.{Edge, IsPath, weight_if, edges_weight, weight, IsNeed}

record First (E : Edge → Type 0) (frame : ℕ → ℕ) (e g sum : ℕ) : Type 0 where
  y : Edge
  edge : E y
  from : y.from ≡ e
  ys : List Edge
  path : IsPath E y.to g ys
  total : sum ≡ weight_if y.call (frame y.from) + edges_weight frame ys

path_first : (E : Edge → Type 0) (frame : ℕ → ℕ) (e g : ℕ) (x : Edge) (xs : List Edge) → IsPath E e g (x ∷ xs) → First E frame e g (edges_weight frame (x ∷ xs))
unfolding IsPath edges_weight
path_first E frame e g x [] (edge, to, at) = record { y = x; edge = edge; from = sym at; ys = []; path = to; total = refl }
path_first E frame e g x (z ∷ zs) (edge, to, path) =
    let f = path_first E frame e x.from z zs path in
    let sum = f.total in
    record { y = f.y; edge = f.edge; from = f.from; ys = x ∷ f.ys; path = (edge, to, f.path); total = omega (arith, sum) }

pub path_behind : (E : Edge → Type 0) (frame : ℕ → ℕ) (y : Edge) (g : ℕ) (ys : List Edge) → E y → IsPath E y.to g ys → IsPath E y.from g (ys ++ y ∷ [])
unfolding IsPath
path_behind E frame y g [] edge path = (edge, path, refl)
path_behind E frame y g (z ∷ zs) edge (first, to, path) = (first, to, path_behind E frame y z.from zs edge path)

weight_behind : (frame : ℕ → ℕ) (y : Edge) (ys : List Edge) → edges_weight frame (ys ++ y ∷ []) ≡ weight_if y.call (frame y.from) + edges_weight frame ys
unfolding edges_weight
weight_behind frame y [] = refl
weight_behind frame y (z ∷ zs) = let rest = weight_behind frame y zs in omega (arith, rest)

module _ (E : Edge → Type 0) (frame : ℕ → ℕ) (f v : ℕ) where
  -- what an edge of f takes, with what its callee needs
  pub record Takes (x : Edge) (sum : ℕ) : Type 0 where
    pub edge : E x
    pub from : x.from ≡ f
    pub n : ℕ
    pub need : IsNeed E frame x.to n
    pub total : weight_if x.call (frame x.from) + n ≡ sum

  most : frame f ≤ v → ((x : Edge) → E x → x.from ≡ f → (sum : ℕ) × Takes x sum × (sum ≤ v)) → (g : ℕ) (xs : List Edge) → IsPath E f g xs → weight frame g xs ≤ v
  unfolding IsPath edges_weight
  most least each g [] path = let same = ap frame path in omega (arith, least, same)
  most least each g (x ∷ xs) path =
      let first = path_first E frame f g x xs path in
      let takes = each first.y first.edge first.from in
      let below = takes.2 in
      let sum = takes.1.total in
      let rest = takes.1.need.most g first.ys first.path in
      let all = first.total in
      omega (arith, below, sum, rest, all)

  pub need_is : frame f ≤ v → ((x : Edge) → E x → x.from ≡ f → (sum : ℕ) × Takes x sum × (sum ≤ v)) → (frame f ≡ v) ⊎ ((x : Edge) × Takes x v) → IsNeed E frame f v
  unfolding IsPath edges_weight
  need_is least each (inl e) = record { last = f; edges = []; path = refl; reached = (let sum : 0 + frame f ≡ v = omega (arith, e) in sum); most = most least each }
  need_is least each (inr (x, t)) =
      let reached = t.need.reached in
      let sum = weight_behind frame x t.need.edges in
      let all = t.total in
      record {
        last = t.need.last;
        edges = t.need.edges ++ x ∷ [];
        path = subst (λ s. IsPath E s t.need.last (t.need.edges ++ x ∷ [])) t.from (path_behind E frame x t.need.last t.need.edges t.edge t.need.path);
        reached = omega (arith, reached, sum, all);
        most = most least each;
      }
