-- There are never more open calls than functions.
use Rattle.std.proofs.Common.{◌≡◌, ℕ, suc, ◌<◌, ◌≤◌, ◌⊎◌, inl, inr, List, [], ◌∷◌, ◌++◌, length, get_or, refl, sym, arith, Bool, true, false}
use Rattle.std.specs.Prelude.{◌||◌, map}
use Rattle.std.specs.List.{IsDistinct, AllByRecursion, list_any}
use Rattle.std.proofs.Math.Dec.{eqb}
use Rattle.std.proofs.lemmas.Bool.{ne_eqb, eqb-true}
use Rattle.std.proofs.lemmas.List.{length-append, length-map}
use Rattle.std.proofs.lemmas.Map.Steps.{length-le_from_distinct_below}
use Rattle.spu_lift.specs.declared.program.Prog.{Prog}
use Rattle.spu_graph.specs.declared.graph.Edge.{Edge}
use Rattle.spu_graph.specs.Paths.{IsPath, functions_on, IsRecursive}
use Rattle.spu_ideal.specs.Edges.{IsEdge}
use Rattle.spu_ideal.specs.declared.state.OpenCall.{OpenCall}
use Rattle.spu_ideal.specs.State.{Sym}
use Rattle.spu_ideal.specs.States.{IsChain, IsOf, IsJudged}
use Rattle.spu_ideal.proofs.Lifted.{function_within}
use Rattle.spu_ideal.proofs.Heights.{first_callee, jumps_path}

-- ---- lists of numbers without repetition, below a bound

apart : (x : ℕ) (ys : List ℕ) → ((j : ℕ) → j < length ys → x ≡ get_or ys j 0 → ⊥) → AllByRecursion (λ y. eqb x y ≡ false) ys
apart x [] h = tt
apart x (y ∷ ys) h = (ne_eqb _ _ (λ e. h 0 (omega arith) e), apart x ys (λ j lt e. h (suc j) (omega arith) e))

distinct : (xs : List ℕ) → ((i j : ℕ) → i < j → j < length xs → get_or xs i 0 ≡ get_or xs j 0 → ⊥) → IsDistinct eqb xs
unfolding IsDistinct
distinct [] h = tt
distinct (x ∷ xs) h = (apart x xs (λ j lt e. h 0 (suc j) (omega arith) (omega arith) e), distinct xs (λ i j lt le e. h (suc i) (suc j) (omega arith) (omega arith) e))

or_cases : (a b : Bool) → (a || b) ≡ true → (a ≡ true) ⊎ (b ≡ true)
or_cases true b e = inl refl
or_cases false b e = inr e

below : (n : ℕ) (xs : List ℕ) → AllByRecursion (λ x. x < n) xs → (q : ℕ) → list_any (eqb q) xs ≡ true → q < n
below n [] all q e = cc
below n (x ∷ xs) all q e =
    let small : x < n = all.0 in
    elim (or_cases (eqb q x) (list_any (eqb q) xs) e) as (λ s. q < n) [
      | inl here ↦ (let is = eqb-true q x here in omega (arith, is, small))
      | inr there ↦ below n xs all.1 q there
    ]

-- ---- functions on a path

path_within : (p : Prog) (e g : ℕ) (xs : List Edge) → IsPath (IsEdge p) e g xs → AllByRecursion (λ f. f < length p.functions) (map (λ x. x.from) xs)
unfolding IsPath
path_within p e g [] path = tt
path_within p e g (x ∷ xs) (edge, to, path) = (function_within p x.from edge.at edge.x edge.here, path_within p e x.from xs path)

-- a path from the entry that isn't recursive has fewer edges than there are functions
path_short : (p : Prog) (e g : ℕ) (xs : List Edge) → (IsRecursive (IsEdge p) e → ⊥) → g < length p.functions → IsPath (IsEdge p) e g xs → length xs < length p.functions
path_short p e g xs once small path =
    let all : List ℕ = functions_on g xs in
    let few = length-le_from_distinct_below all (length p.functions)
    (distinct all (λ i j lt le same. once (record { last = g; edges = xs; path = path; i = i; j = j; apart = lt; within = le; same = same })))
    (below (length p.functions) all (small, path_within p e g xs path)) in
    omega (arith, few, length-map xs (λ x. x.from))

record Opens (p : Prog) (g : ℕ) (count : ℕ) : Type 0 where
  edges : List Edge
  path : IsPath (IsEdge p) p.entry g edges
  few : count ≤ suc (length edges)

module _ (p : Prog) (frames : ℕ → ℕ) (need : ℕ) (judged : IsJudged p frames need) where
  -- each open call but the first has an edge of its own
  chain_opens : (c : OpenCall) (cs : List OpenCall) (g entry : ℕ) → IsChain p (c ∷ cs) g entry → Opens p g (length (c ∷ cs))
  unfolding IsChain IsPath
  chain_opens c [] g entry (outer, o, (z, e)) =
      let first = first_callee p frames need judged c.f o.at o.callee o.x z o.here o.call in
      let path = jumps_path p frames p.entry o.callee g [] o.jumps (sym first) o.path in
      record { edges = o.jumps ++ []; path = path.0; few = omega arith }
  chain_opens c (d ∷ ds) g entry (outer, o, rest) =
      let before = chain_opens d ds c.f outer rest in
      let edge : Edge = record { from = c.f; to = o.callee; call = true } in
      let is : IsEdge p edge = record { at = o.at; depth = o.depth; reached = o.reached; x = o.x; here = o.here; leads = inl (refl, o.call) } in
      let path = jumps_path p frames p.entry o.callee g (edge ∷ before.edges) o.jumps (is, refl, before.path) o.path in
      let few = before.few in
      record { edges = o.jumps ++ edge ∷ before.edges; path = path.0; few = omega (arith, few, length-append o.jumps (edge ∷ before.edges)) }

  pub opens_few : (s : Sym) → IsOf p s → length s.calls ≤ length p.functions
  opens_few s inv = by_calls s.calls inv.chain
    where
      by_calls : (calls : List OpenCall) → IsChain p calls s.f inv.entry → length calls ≤ length p.functions
      by_calls [] chain = omega arith
      by_calls (c ∷ cs) chain =
          let opens = chain_opens c cs s.f inv.entry chain in
          let short = path_short p p.entry s.f opens.edges judged.acyclic (function_within p s.f s.i inv.placed.0 inv.placed.1) opens.path in
          let few = opens.few in
          omega (arith, short, few)
