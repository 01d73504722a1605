-- Edges and paths of the graph that is made, against those of the program.
use Rattle.std.proofs.Common.{◌≡◌, ℕ, ◌+◌, ◌<◌, ◌≤◌, ◌⊎◌, inl, inr, Bool, false, List, [], ◌∷◌, length, Option, Some, None, IfSome, refl, sym, ap, ◌∙◌, subst, arith, ℤ}
use Rattle.std.specs.List.{Contains}
use Rattle.spu_lift.specs.declared.program.Operand.{Operand}
use Rattle.spu_lift.specs.declared.program.Operand.TheVariants as operand
use Rattle.spu_lift.specs.declared.program.SymInst.{SymInst}
use Rattle.spu_lift.specs.declared.program.Prog.{Prog}
use Rattle.spu_lift.specs.Places.{instruction_at}
use Rattle.spu_lift.specs.WellFormed.{IsOperand, IsWellFormed}
use Rattle.spu_frame.specs.Walks.{Reaches}
use Rattle.spu_graph.specs.declared.graph.Edge.{Edge}
use Rattle.spu_graph.specs.Paths.{IsPath, weight_if, edges_weight}
use Rattle.spu_judge.specs.Edges.{Leads, IsEdge}
use Rattle.spu_judge.specs.Building.{pointer_node, edge_between, edge_of, IsMade, IsEdgeOf}
use Rattle.spu_judge.proofs.Instructions.{function_within, Points, LeadsOut, leads_out, IsLed, led}

-- a reached place of h leads by a pointer
pub record IsPointing (p : Prog) (h : ℕ) (call : Bool) : Type 0 where
  pub at : ℕ
  pub depth : ℤ
  pub reached : Reaches p h at depth
  pub x : SymInst
  pub here : instruction_at p h at ≡ Some x
  pub points : Points p h x call

module _ (p : Prog) (formed : IsWellFormed p) where
  abbrev node : ℕ
  node = pointer_node p

  taken_below : (g : ℕ) → Contains p.taken g → g < node
  taken_below g taken = (formed.taken g taken).1

  -- ---- edges

  pub pointing_edge : (h g : ℕ) (call : Bool) → IsPointing p h call → Contains p.taken g → IsEdge p (edge_between h g call)
  pointing_edge h g call q taken = record { at = q.at; depth = q.depth; reached = q.reached; x = q.x; here = q.here; leads = by_points q.points }
    where
      by_points : Points p h q.x call → Leads p q.x (edge_between h g call)
      by_points (inl (c, k)) = inl (c, inr (k, taken))
      by_points (inr (c, jump)) = inr (c, inr (jump, taken))

  pub edge_below : (e : Edge) → IsEdge p e → e.to < node
  edge_below e edge = by_leads edge.leads
    where
      stands : (o : Operand) → edge.x.operand ≡ o → IsOperand p e.from edge.x o
      stands o is = subst (λ (o : Operand). IsOperand p e.from edge.x o) is (formed.instructions e.from edge.at edge.x edge.here).stands

      by_leads : Leads p edge.x e → e.to < node
      by_leads (inl (c, inl (k, is))) = (let callee : IsOperand p e.from edge.x (operand.Call e.to) = stands (operand.Call e.to) is in callee.1.1)
      by_leads (inl (c, inr (k, taken))) = taken_below e.to taken
      by_leads (inr (c, inl is)) = (let callee : IsOperand p e.from edge.x (operand.Jump e.to) = stands (operand.Jump e.to) is in callee.1.1)
      by_leads (inr (c, inr (jump, taken))) = taken_below e.to taken

  -- from a function
  pub made_edge : (e : Edge) → IsMade p e → (e.from ≡ node → ⊥) → IsEdge p e ⊎ ((e.to ≡ node) × IsPointing p e.from e.call)
  made_edge e (inr into) ne = absurd (ne into.0)
  made_edge e (inl (f, at, out)) ne = by_leads (leads_out p f out.x e out.leads)
    where
      by_leads : LeadsOut p f out.x e → IsEdge p e ⊎ ((e.to ≡ node) × IsPointing p e.from e.call)
      by_leads (from, inl leads) =
          inl (record {
            at = at;
            depth = out.depth;
            reached = subst (λ g. Reaches p g at out.depth) (sym from) out.reached;
            x = out.x;
            here = subst (λ g. instruction_at p g at ≡ Some out.x) (sym from) out.here;
            leads = leads;
          })
      by_leads (from, inr (to, points)) =
          inr (
            to,
            record {
              at = at;
              depth = out.depth;
              reached = subst (λ g. Reaches p g at out.depth) (sym from) out.reached;
              x = out.x;
              here = subst (λ g. instruction_at p g at ≡ Some out.x) (sym from) out.here;
              points = subst (λ g. Points p g out.x e.call) (sym from) points;
            },
          )

  pub edge_small : (f i : ℕ) (o : Option Edge) → IsEdgeOf p f i o → IfSome o (λ e. e.to ≤ length p.functions)
  edge_small f i None known = tt
  edge_small f i (Some e) known = by_leads (leads_out p f known.0.x e known.0.leads)
    where
      by_leads : LeadsOut p f known.0.x e → e.to ≤ length p.functions
      by_leads (from, inr (to, points)) = omega (arith, to)
      by_leads (from, inl leads) =
          let edge : IsEdge p e = record {
            at = i;
            depth = known.0.depth;
            reached = subst (λ g. Reaches p g i known.0.depth) (sym from) known.0.reached;
            x = known.0.x;
            here = subst (λ g. instruction_at p g i ≡ Some known.0.x) (sym from) known.0.here;
            leads = leads;
          } in
          let below = edge_below e edge in
          omega (arith, below)

  -- from the node of pointers
  pub made_in : (e : Edge) → IsMade p e → e.from ≡ node → (e.call ≡ false) × Contains p.taken e.to
  made_in e (inr into) is = (into.1, into.2)
  made_in e (inl (f, at, out)) is =
      let from = (leads_out p f out.x e out.leads).0 in
      let within = function_within p f at out.x out.here in
      absurd (omega (arith, is, from, within))

  pub made_from : (e : Edge) → IsMade p e → (e.from < node) ⊎ (e.from ≡ node)
  made_from e (inr into) = inr into.0
  made_from e (inl (f, at, out)) =
      let from = (leads_out p f out.x e out.leads).0 in
      let within = function_within p f at out.x out.here in
      inl (omega (arith, from, within))

  -- an edge of the program is made, or it is two edges through the node of pointers
  pub edge_made : (e : Edge) → IsEdge p e → IsMade p e ⊎ (IsMade p (edge_between e.from node e.call) × IsMade p (edge_between node e.to false))
  edge_made e edge = by_led (led p formed e.from edge.at edge.x edge.here e refl edge.leads)
    where
      out : (d : Edge) → edge_of p e.from edge.x ≡ Some d → IsMade p d
      out d is = inl (e.from, edge.at, record { depth = edge.depth; reached = edge.reached; x = edge.x; here = edge.here; leads = is })

      by_led : IsLed p e.from edge.x e → IsMade p e ⊎ (IsMade p (edge_between e.from node e.call) × IsMade p (edge_between node e.to false))
      by_led (inl is) = inl (out e is)
      by_led (inr (is, taken)) = inr (out (edge_between e.from node e.call) is, inr (refl, refl, taken))

  -- ---- paths

  -- a path of the program from e to g, of this weight over its edges
  pub record IsOwn (frame : ℕ → ℕ) (e g sum : ℕ) : Type 0 where
    pub edges : List Edge
    pub path : IsPath (IsEdge p) e g edges
    pub total : edges_weight frame edges ≡ sum

  -- a path of the program to a place that leads by a pointer
  pub record IsNear (frame : ℕ → ℕ) (e sum : ℕ) : Type 0 where
    pub last : ℕ
    pub call : Bool
    pub edges : List Edge
    pub path : IsPath (IsEdge p) e last edges
    pub pointing : IsPointing p last call
    pub total : weight_if call (frame last) + edges_weight frame edges ≡ sum

  abbrev pub IsOwnOrNear : (ℕ → ℕ) → ℕ → ℕ → ℕ → Type 0
  IsOwnOrNear frame e g sum = ((g ≡ node → ⊥) × IsOwn frame e g sum) ⊎ ((g ≡ node) × IsNear frame e sum)

  module _ (frame : ℕ → ℕ) (e : ℕ) where
    own_end : (ne : e ≡ node → ⊥) (g : ℕ) → e ≡ g → IsOwnOrNear frame e g 0
    unfolding IsPath edges_weight
    own_end ne g is = inl (λ at. ne (is ∙ at), record { edges = []; path = is; total = refl })

    own_more : (x : Edge) (g sum : ℕ) → IsMade p x → x.to ≡ g → IsOwnOrNear frame e x.from sum → IsOwnOrNear frame e g (weight_if x.call (frame x.from) + sum)
    unfolding IsPath edges_weight
    own_more x g sum made to (inl (ne, own)) = by_edge (made_edge x made ne)
      where
        by_edge : IsEdge p x ⊎ ((x.to ≡ node) × IsPointing p x.from x.call) → IsOwnOrNear frame e g (weight_if x.call (frame x.from) + sum)
        by_edge (inl edge) =
            let below = edge_below x edge in
            inl (λ at. (let is : x.to ≡ node = to ∙ at in omega (arith, is, below)), record { edges = x ∷ own.edges; path = (edge, to, own.path); total = ap (λ n. weight_if x.call (frame x.from) + n) own.total })
        by_edge (inr (at, pointing)) =
            inr (sym to ∙ at, record { last = x.from; call = x.call; edges = own.edges; path = own.path; pointing = pointing; total = ap (λ n. weight_if x.call (frame x.from) + n) own.total })
    own_more x g sum made to (inr (is, near)) =
        let into = made_in x made is in
        let below = taken_below x.to into.1 in
        let total = near.total in
        let light : weight_if x.call (frame x.from) ≡ 0 = ap (λ b. weight_if b (frame x.from)) into.0 in
        let edge = edge_between near.last x.to near.call in
        inl (
          λ at. (let is : x.to ≡ node = to ∙ at in omega (arith, is, below)),
          record {
            edges = edge ∷ near.edges;
            path = (pointing_edge near.last x.to near.call near.pointing into.1, to, near.path);
            total = omega (arith, total, light);
          },
        )

    pub own_path : (ne : e ≡ node → ⊥) (g : ℕ) (xs : List Edge) → IsPath (IsMade p) e g xs → IsOwnOrNear frame e g (edges_weight frame xs)
    unfolding IsPath edges_weight
    own_path ne g [] path = own_end ne g path
    own_path ne g (x ∷ xs) (made, to, path) = own_more x g (edges_weight frame xs) made to (own_path ne x.from xs path)

    -- a path of the graph that is made, with at least so many edges
    pub record IsThrough (g sum count : ℕ) : Type 0 where
      pub edges : List Edge
      pub path : IsPath (IsMade p) e g edges
      pub total : edges_weight frame edges ≡ sum
      pub long : count ≤ length edges

    pub through : (g : ℕ) (xs : List Edge) → IsPath (IsEdge p) e g xs → IsThrough g (edges_weight frame xs) (length xs)
    unfolding IsPath edges_weight
    through g [] path = record { edges = []; path = path; total = refl; long = omega arith }
    through g (x ∷ xs) (edge, to, path) =
        let rest = through x.from xs path in
        let total = rest.total in
        let long = rest.long in
        by_edge (edge_made x edge) rest
      where
        by_edge : IsMade p x ⊎ (IsMade p (edge_between x.from node x.call) × IsMade p (edge_between node x.to false)) → IsThrough x.from (edges_weight frame xs) (length xs)
            → IsThrough g (edges_weight frame (x ∷ xs)) (length (x ∷ xs))
        by_edge (inl made) rest =
            let total = rest.total in
            let long = rest.long in
            record { edges = x ∷ rest.edges; path = (made, to, rest.path); total = ap (λ n. weight_if x.call (frame x.from) + n) total; long = omega (arith, long) }
        by_edge (inr (out, into)) rest =
            let total = rest.total in
            let long = rest.long in
            record {
              edges = edge_between node x.to false ∷ edge_between x.from node x.call ∷ rest.edges;
              path = (into, to, (out, refl, rest.path));
              total = omega (arith, total);
              long = omega (arith, long);
            }
