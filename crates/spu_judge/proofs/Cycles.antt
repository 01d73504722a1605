-- A cycle of the graph that is made is, without the node of pointers, one of the program.
use Rattle.std.proofs.Common.{◌≡◌, ℕ, ◌<◌, ◌⊎◌, inl, inr, Bool, List, [], ◌∷◌, ◌++◌, refl, sym, ap, ◌∙◌, subst, arith}
use Rattle.std.specs.Prelude.{nat_lt, cond}
use Rattle.std.specs.List.{Contains}
use Rattle.std.proofs.lemmas.Bool.{lt-ltb, le-ltb, cond-true, cond-false}
use Rattle.spu_lift.specs.declared.program.Prog.{Prog}
use Rattle.spu_lift.specs.WellFormed.{IsWellFormed}
use Rattle.spu_graph.specs.declared.graph.Edge.{Edge}
use Rattle.spu_graph.specs.Paths.{IsPath, IsRecursive}
use Rattle.spu_graph.specs.Cycles.{IsChain, IsCycle}
use Rattle.spu_graph.specs.Cycles.{Leads as IsJoin}
use Rattle.spu_graph.proofs.Cycles.{chain_more, cycle_recursive}
use Rattle.spu_judge.specs.Edges.{IsEdge}
use Rattle.spu_judge.specs.Building.{pointer_node, edge_between, functions_among, IsMade}
use Rattle.spu_judge.proofs.Pointing.{IsPointing, edge_below, made_edge, made_in, made_from, pointing_edge, IsOwnOrNear, own_path}
use Rattle.spu_judge.proofs.Needs.{path_as}

chain_as : (E F : Edge → Type 0) → ((x : Edge) → E x → F x) → (xs : List ℕ) → IsChain E xs → IsChain F xs
chain_as E F h [] chain = tt
chain_as E F h (f ∷ []) chain = tt
chain_as E F h (f ∷ g ∷ gs) chain =
    let leads = chain.0 in
    (record { edge = leads.edge; is = h leads.edge leads.is; from = leads.from; to = leads.to }, chain_as E F h (g ∷ gs) chain.1)

module _ (p : Prog) (formed : IsWellFormed p) where
  abbrev node : ℕ
  node = pointer_node p

  apart : (f : ℕ) → f < node → f ≡ node → ⊥
  apart f lt is = omega (arith, lt, is)

  -- from a function to another one, or to the node of pointers
  join_own : (f g : ℕ) → f < node → IsJoin (IsMade p) f g → IsJoin (IsEdge p) f g ⊎ ((g ≡ node) × ((call : Bool) × IsPointing p f call))
  join_own f g small leads = by_edge (made_edge p formed leads.edge leads.is (λ at. apart f small (sym leads.from ∙ at)))
    where
      by_edge : IsEdge p leads.edge ⊎ ((leads.edge.to ≡ node) × IsPointing p leads.edge.from leads.edge.call) → IsJoin (IsEdge p) f g ⊎ ((g ≡ node) × ((call : Bool) × IsPointing p f call))
      by_edge (inl edge) = inl (record { edge = leads.edge; is = edge; from = leads.from; to = leads.to })
      by_edge (inr (at, pointing)) = inr (sym leads.to ∙ at, (leads.edge.call, subst (λ h. IsPointing p h leads.edge.call) leads.from pointing))

  -- over the node of pointers
  join_over : (f g h : ℕ) → (call : Bool) × IsPointing p f call → g ≡ node → IsJoin (IsMade p) g h → IsJoin (IsEdge p) f h × (h < node)
  join_over f g h (call, pointing) is leads =
      let into = made_in p formed leads.edge leads.is (leads.from ∙ is) in
      let taken : Contains p.taken h = subst (Contains p.taken) leads.to into.1 in
      (record { edge = edge_between f h call; is = pointing_edge p formed f h call pointing taken; from = refl; to = refl }, (formed.taken h taken).1)

  abbrev functions : List ℕ → List ℕ
  functions xs = functions_among p xs

  kept : (g : ℕ) (gs : List ℕ) → g < node → functions (g ∷ gs) ≡ g ∷ functions gs
  kept g gs small = cond-true _ _ _ (lt-ltb g node small)

  dropped : (g : ℕ) (gs : List ℕ) → g ≡ node → functions (g ∷ gs) ≡ functions gs
  dropped g gs is = cond-false _ _ _ (le-ltb g node (omega (arith, is)))

  join_below : (f g : ℕ) → IsJoin (IsEdge p) f g → g < node
  join_below f g leads = let below = edge_below p formed leads.edge leads.is in let to = leads.to in omega (arith, below, to)

  -- one more function or node of pointers, before the last function
  one_more : (f g l : ℕ) → IsJoin (IsEdge p) f g ⊎ ((g ≡ node) × ((call : Bool) × IsPointing p f call)) → IsJoin (IsMade p) g l
      → (g < node → IsChain (IsEdge p) (g ∷ l ∷ [])) → IsChain (IsEdge p) (f ∷ functions (g ∷ []) ++ l ∷ [])
  one_more f g l (inl own) next rest =
      let below = join_below f g own in
      subst (λ gs. IsChain (IsEdge p) (f ∷ gs ++ l ∷ [])) (sym (kept g [] below)) (own, rest below)
  one_more f g l (inr (at, pointing)) next rest =
      let over = join_over f g l pointing at next in
      subst (λ gs. IsChain (IsEdge p) (f ∷ gs ++ l ∷ [])) (sym (dropped g [] at)) (over.0, tt)

  -- and before others
  two_more : (f g h : ℕ) (hs : List ℕ) (l : ℕ) → IsJoin (IsEdge p) f g ⊎ ((g ≡ node) × ((call : Bool) × IsPointing p f call)) → IsJoin (IsMade p) g h
      → (g < node → IsChain (IsEdge p) (g ∷ functions (h ∷ hs) ++ l ∷ [])) → (h < node → IsChain (IsEdge p) (h ∷ functions hs ++ l ∷ []))
      → IsChain (IsEdge p) (f ∷ functions (g ∷ h ∷ hs) ++ l ∷ [])
  two_more f g h hs l (inl own) next rest after =
      let below = join_below f g own in
      subst (λ gs. IsChain (IsEdge p) (f ∷ gs ++ l ∷ [])) (sym (kept g (h ∷ hs) below)) (own, rest below)
  two_more f g h hs l (inr (at, pointing)) next rest after =
      let over = join_over f g h pointing at next in
      let same = dropped g (h ∷ hs) at ∙ kept h hs over.1 in
      subst (λ gs. IsChain (IsEdge p) (f ∷ gs ++ l ∷ [])) (sym same) (over.0, after over.1)

  last_join : (f l : ℕ) → l < node → IsJoin (IsEdge p) f l ⊎ ((l ≡ node) × ((call : Bool) × IsPointing p f call)) → IsChain (IsEdge p) (f ∷ l ∷ [])
  last_join f l last (inl own) = (own, tt)
  last_join f l last (inr (at, pointing)) = absurd (apart l last at)

  -- a chain from a function to a function, without the nodes of pointers between them
  chain_own : (f : ℕ) (xs : List ℕ) (l : ℕ) → f < node → l < node → IsChain (IsMade p) (f ∷ xs ++ l ∷ []) → IsChain (IsEdge p) (f ∷ functions xs ++ l ∷ [])
  chain_own f [] l small last chain = last_join f l last (join_own f l small chain.0)
  chain_own f (g ∷ []) l small last chain = one_more f g l (join_own f g small chain.0) chain.1.0 (λ below. chain_own g [] l below last chain.1)
  chain_own f (g ∷ h ∷ hs) l small last chain =
      two_more f g h hs l (join_own f g small chain.0) chain.1.0 (λ below. chain_own g (h ∷ hs) l below last chain.1) (λ below. chain_own h hs l below last chain.1.1)

  -- ---- cycles

  own_to : (e f : ℕ) → e < node → f < node → (xs : List Edge) × IsPath (IsMade p) e f xs → (xs : List Edge) × IsPath (IsEdge p) e f xs
  own_to e f small below (xs, path) = by_path _ (own_path p formed (λ n. n) e (apart e small) f xs path)
    where
      by_path : (sum : ℕ) → IsOwnOrNear p formed (λ n. n) e f sum → (xs : List Edge) × IsPath (IsEdge p) e f xs
      by_path sum (inl (ne, own)) = (own.edges, own.path)
      by_path sum (inr (is, near)) = absurd (apart f below is)

  -- a cycle that begins with a function
  cycle_here : (e f : ℕ) (fs : List ℕ) → e < node → f < node → IsCycle (IsMade p) e (f ∷ fs) → IsCycle (IsEdge p) e (functions (f ∷ fs))
  cycle_here e f fs small below cycle =
      subst (IsCycle (IsEdge p) e) (sym (kept f fs below)) (chain_own f fs f below below cycle.0, own_to e f small below cycle.1)

  -- one that begins with the node of pointers goes on with a function, and begins with that as well
  turned : (e f g : ℕ) (gs : List ℕ) → f ≡ node → IsCycle (IsMade p) e (f ∷ g ∷ gs) → (g < node) × IsCycle (IsMade p) e (g ∷ gs ++ f ∷ [])
  unfolding IsPath
  turned e f g gs is cycle =
      let leads = cycle.0.0 in
      let into = made_in p formed leads.edge leads.is (leads.from ∙ is) in
      let below = (formed.taken g (subst (Contains p.taken) leads.to into.1)).1 in
      let path = cycle.1 in (
        below,
        (
          chain_more (IsMade p) (g ∷ gs) f g cycle.0.1 leads,
          (leads.edge ∷ path.0, (leads.is, leads.to, subst (λ h. IsPath (IsMade p) e h path.0) (sym leads.from) path.1)),
        ),
      )

  without_last : (f : ℕ) (gs : List ℕ) → f ≡ node → functions (gs ++ f ∷ []) ≡ functions gs
  without_last f [] is = dropped f [] is
  without_last f (g ∷ gs) is = ap (λ (l : List ℕ). cond (nat_lt g node) (g ∷ l) l) (without_last f gs is)

  first_node : (f g : ℕ) → IsJoin (IsMade p) f g → (f < node) ⊎ (f ≡ node)
  first_node f g leads = elim (made_from p formed leads.edge leads.is) [ inl below ↦ inl (let from = leads.from in omega (arith, from, below)) | inr is ↦ inr (sym leads.from ∙ is) ]

  cycle_own : (e : ℕ) (nodes : List ℕ) → e < node → IsCycle (IsMade p) e nodes → IsCycle (IsEdge p) e (functions nodes)
  cycle_own e [] small cycle = absurd cycle
  cycle_own e (f ∷ []) small cycle = by_first (first_node f f cycle.0.0)
    where
      by_first : (f < node) ⊎ (f ≡ node) → IsCycle (IsEdge p) e (functions (f ∷ []))
      by_first (inl below) = cycle_here e f [] small below cycle
      by_first (inr is) = (let leads = cycle.0.0 in
          let into = made_in p formed leads.edge leads.is (leads.from ∙ is) in
          let below = (formed.taken f (subst (Contains p.taken) leads.to into.1)).1 in
          cycle_here e f [] small below cycle)
  cycle_own e (f ∷ g ∷ gs) small cycle = by_first (first_node f g cycle.0.0)
    where
      by_first : (f < node) ⊎ (f ≡ node) → IsCycle (IsEdge p) e (functions (f ∷ g ∷ gs))
      by_first (inl below) = cycle_here e f (g ∷ gs) small below cycle
      by_first (inr is) = (let next = turned e f g gs is cycle in
          let own = cycle_here e g (gs ++ f ∷ []) small next.0 next.1 in
          let same : functions (g ∷ gs ++ f ∷ []) ≡ functions (f ∷ g ∷ gs) = without_last f (g ∷ gs) is ∙ sym (dropped f (g ∷ gs) is) in
          subst (IsCycle (IsEdge p) e) same own)

  pub cycle_refused : (E : Edge → Type 0) → ((x : Edge) → E x → IsMade p x) → (e : ℕ) (nodes : List ℕ) → e < node → IsCycle E e nodes
      → IsRecursive (IsEdge p) e × IsCycle (IsEdge p) e (functions nodes)
  cycle_refused E made e [] small cycle = absurd cycle
  cycle_refused E made e (f ∷ fs) small cycle =
      let path = cycle.1 in
      let own = cycle_own e (f ∷ fs) small (chain_as E (IsMade p) made ((f ∷ fs) ++ f ∷ []) cycle.0, (path.0, path_as E (IsMade p) made e f path.0 path.1)) in
      (cycle_recursive (IsEdge p) e (functions (f ∷ fs)) own, own)
