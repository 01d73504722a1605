-- Where the entry is done, all that its paths reach is.
use Rattle.std.proofs.Common.{◌≡◌, ℕ, zero, suc, ◌<◌, ◌≤◌, arith, Bool, true, false, List, [], ◌∷◌, length, Option, Some, None, refl, sym, ap, ◌∙◌}
use Rattle.std.specs.Prelude.{slice_get, slice_index, if◌then◌else◌, ◌==◌}
use Rattle.std.specs.List.{Contains}
use Rattle.std.proofs.lemmas.Bool.{eqb-true, eq-eqb, cond-true}
use Rattle.spu_graph.proofs.Ranks.{never_recursive}
use Rattle.spu_graph.specs.declared.graph.Edge.{Edge}
use Rattle.spu_graph.specs.Paths.{IsPath, IsRecursive}
use Rattle.spu_graph.specs.Peeling.{IsPeeled}
use Rattle.spu_graph.specs.Reaching.{AreReached}
use Rattle.spu_graph.specs.Known.{needed_by, needed, AreNeeds}
use Rattle.spu_graph.proofs.Settled.{contains_place}

abbrev IsDone : List (Option ℕ) → ℕ → Type 0
IsDone known f = (v : ℕ) × (slice_get known f ≡ Some (Some v))

module _ (frames : List ℕ) (edges : List Edge) (entry : ℕ) (known : List (Option ℕ)) (p : IsPeeled frames edges known) where
  step : (x : Edge) → (k : ℕ) × (slice_get edges k ≡ Some x) → IsDone known x.from → IsDone known x.to
  step x (k, at) (v, done) =
      let place = p.placed x.from v done in
      let callee = p.falls place.0 k x at place.1 in
      p.ordered callee.0 x.to callee.2

  done_path : IsDone known entry → (f : ℕ) (xs : List Edge) → IsPath (Contains edges) entry f xs → IsDone known f
  unfolding IsPath
  done_path begins f [] path = (begins.0, ap (slice_get known) (sym path) ∙ begins.1)
  done_path begins f (x ∷ xs) (edge, to, path) =
      let next = step x (contains_place edges x edge) (done_path begins x.from xs path) in
      (next.0, ap (slice_get known) (sym to) ∙ next.1)

  module _ (marks : List Bool) (r : AreReached (length frames) edges entry marks) (begins : IsDone known entry) where
    both : (m : Option Bool) (o : Option (Option ℕ)) (v : ℕ) → needed_by m o ≡ Some v → (m ≡ Some true) × (o ≡ Some (Some v))
    both (Some true) (Some o) v e = (refl, ap Some e)
    both (Some true) None v e = absurd (cc)
    both (Some false) o v e = absurd (cc)
    both None o v e = absurd (cc)

    pub are_needs : AreNeeds (Contains edges) (slice_index frames) entry (needed known marks)
    are_needs = record {
      need = λ f v e. p.done f v (both (slice_get marks f) (slice_get known f) v e).1;
      some = λ f v e. r.some f (both (slice_get marks f) (slice_get known f) v e).0;
      none = λ f xs e path. (let mark = r.each f xs path in let done = done_path begins f xs path in
          let is : needed_by (slice_get marks f) (slice_get known f) ≡ Some done.0 = ap (λ m. needed_by m (slice_get known f)) mark ∙ ap (needed_by (Some true)) done.1 in cc);
    }

-- ---- no path from a done entry is recursive: the order falls along each edge

abbrev rank : List ℕ → ℕ → ℕ
rank [] f = 0
rank (x ∷ xs) f = if x == f then 0 else suc (rank xs f)

rank_below : (xs : List ℕ) (i f : ℕ) → slice_get xs i ≡ Some f → rank xs f ≤ i
rank_below [] i f at = absurd (cc)
rank_below (x ∷ xs) zero f at = let e : rank (x ∷ xs) f ≡ 0 = cond-true _ _ _ (eq-eqb x f (cc)) in omega (arith, e)
rank_below (x ∷ xs) (suc i) f at = let le = rank_below xs i f at in elim (x == f) as (λ b. (if b then 0 else suc (rank xs f)) ≤ suc i) [ true ↦ omega arith | false ↦ omega (arith, le) ]

rank_at : (xs : List ℕ) (i f : ℕ) → slice_get xs i ≡ Some f → slice_get xs (rank xs f) ≡ Some f
rank_at [] i f at = absurd (cc)
rank_at (x ∷ xs) zero f at = let e : rank (x ∷ xs) f ≡ 0 = cond-true _ _ _ (eq-eqb x f (cc)) in ap (slice_get (x ∷ xs)) e ∙ at
rank_at (x ∷ xs) (suc i) f at = by_test (x == f) refl (rank_at xs i f at)
  where
    by_test : (b : Bool) → (x == f) ≡ b → slice_get xs (rank xs f) ≡ Some f → slice_get (x ∷ xs) (if b then 0 else suc (rank xs f)) ≡ Some f
    by_test true t rest = ap Some (eqb-true x f t)
    by_test false t rest = rest

module _ (frames : List ℕ) (edges : List Edge) (entry : ℕ) (known : List (Option ℕ)) (p : IsPeeled frames edges known) (begins : IsDone known entry) where
  FromDone : Edge → Type 0
  FromDone x = Contains edges x × IsDone known x.from

  done_edges : (f : ℕ) (xs : List Edge) → IsPath (Contains edges) entry f xs → IsPath FromDone entry f xs
  unfolding IsPath FromDone
  done_edges f [] path = path
  done_edges f (x ∷ xs) (edge, to, path) = ((edge, done_path frames edges entry known p begins x.from xs path), to, done_edges x.from xs path)

  falls : (x : Edge) → FromDone x → rank p.order x.to < rank p.order x.from
  unfolding FromDone
  falls x (edge, (v, done)) =
      let at = contains_place edges x edge in
      let place = p.placed x.from v done in
      let callee = p.falls (rank p.order x.from) at.0 x at.1 (rank_at p.order place.0 x.from place.1) in
      let below = rank_below p.order callee.0 x.to callee.2 in
      let lt = callee.1 in
      omega (arith, below, lt)

  pub not_recursive : IsRecursive (Contains edges) entry → ⊥
  not_recursive r = never_recursive FromDone (rank p.order) falls entry
      (record { last = r.last; edges = r.edges; path = done_edges r.last r.edges r.path; i = r.i; j = r.j; apart = r.apart; within = r.within; same = r.same })
