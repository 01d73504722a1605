-- The graph that is made has the needs of the program.
use Rattle.std.proofs.Common.{◌≡◌, ℕ, suc, ◌-◌, ◌<◌, ◌≤◌, inl, inr, Bool, true, false, List, [], ◌∷◌, length, Option, Some, None, refl, sym, ap, ◌∙◌, arith}
use Rattle.std.specs.Prelude.{nat_lt, if◌then◌else◌}
use Rattle.std.proofs.lemmas.Bool.{lt-ltb, cond-true, ltb-true}
use Rattle.spu_lift.specs.declared.program.Prog.{Prog}
use Rattle.spu_lift.specs.WellFormed.{IsWellFormed}
use Rattle.spu_graph.specs.declared.graph.Edge.{Edge}
use Rattle.spu_graph.specs.Paths.{IsPath, weight_if, edges_weight, weight, IsNeed, IsRecursive}
use Rattle.spu_graph.specs.Known.{AreNeeds}
use Rattle.spu_graph.proofs.Cycles.{Joined, round_recursive}
use Rattle.spu_graph.proofs.Rounds.{recursive_round}
use Rattle.spu_judge.specs.Edges.{IsEdge}
use Rattle.spu_judge.specs.Building.{pointer_node, IsMade}
use Rattle.spu_judge.proofs.Pointing.{edge_below, IsOwnOrNear, own_path, through}

-- ---- graphs that have the same edges, and frames that are the same

pub path_as : (E F : Edge → Type 0) → ((x : Edge) → E x → F x) → (e g : ℕ) (xs : List Edge) → IsPath E e g xs → IsPath F e g xs
unfolding IsPath
path_as E F h e g [] path = path
path_as E F h e g (x ∷ xs) (edge, to, path) = (h x edge, to, path_as E F h e x.from xs path)

weight_as : (m n : ℕ → ℕ) → ((f : ℕ) → m f ≡ n f) → (xs : List Edge) → edges_weight m xs ≡ edges_weight n xs
unfolding edges_weight
weight_as m n h [] = refl
weight_as m n h (x ∷ xs) =
    let here = ap (weight_if x.call) (h x.from) in
    let rest = weight_as m n h xs in
    omega (arith, here, rest)

weight_less : (call : Bool) (n : ℕ) → weight_if call n ≤ n
weight_less true n = omega arith
weight_less false n = omega arith

-- ---- needs

module _ (p : Prog) (formed : IsWellFormed p) (E : Edge → Type 0) (made : (x : Edge) → E x → IsMade p x) (each : (x : Edge) → IsMade p x → E x) where
  abbrev node : ℕ
  node = pointer_node p

  own_need : (m n : ℕ → ℕ) → ((f : ℕ) → m f ≡ n f) → n node ≡ 0 → (f v : ℕ) → (f ≡ node → ⊥) → IsNeed E m f v → IsNeed (IsEdge p) n f v
  own_need m n same none f v ne need = by_path (own_path p formed n f ne need.last need.edges (path_as E (IsMade p) made f need.last need.edges need.path))
    where
      most : (g : ℕ) (xs : List Edge) → IsPath (IsEdge p) f g xs → weight n g xs ≤ v
      most g xs path =
          let there = through p formed n f g xs path in
          let most = need.most g there.edges (path_as (IsMade p) E each f g there.edges there.path) in
          let total = there.total in
          let equal = weight_as m n same there.edges in
          let last = same g in
          omega (arith, most, total, equal, last)

      by_path : IsOwnOrNear p formed n f need.last (edges_weight n need.edges) → IsNeed (IsEdge p) n f v
      by_path (inl (other, own)) =
          let total = own.total in
          let equal = weight_as m n same need.edges in
          let last = same need.last in
          let reached = need.reached in
          record { last = need.last; edges = own.edges; path = own.path; reached = omega (arith, total, equal, last, reached); most = most }
      by_path (inr (is, near)) =
          let total = near.total in
          let equal = weight_as m n same need.edges in
          let last : m need.last ≡ 0 = same need.last ∙ ap n is ∙ none in
          let reached = need.reached in
          let less = weight_less near.call (n near.last) in
          let within = most near.last near.edges near.path in
          record { last = near.last; edges = near.edges; path = near.path; reached = omega (arith, total, equal, last, reached, less, within); most = most }

  -- the needs of the functions alone
  pub own_needs : (m n : ℕ → ℕ) → ((f : ℕ) → m f ≡ n f) → n node ≡ 0 → (e : ℕ) → e < node → (all own : ℕ → Option ℕ)
      → ((f : ℕ) → own f ≡ (if nat_lt f node then all f else None)) → AreNeeds E m e all → AreNeeds (IsEdge p) n e own
  unfolding IsPath
  own_needs m n same none e small all own kept needs =
      record {
        need = λ f v is. (let at = known f v (nat_lt f node) refl is in own_need m n same none f v (apart f at.0) (needs.need f v at.1));
        some = λ f v is. (let at = known f v (nat_lt f node) refl is in let path = needs.some f v at.1 in
            by_path f (apart f at.0) _ (own_path p formed n e (apart e small) f path.0 (path_as E (IsMade p) made e f path.0 path.1)));
        none = λ f xs is path. (let there = through p formed n e f xs path in
            let below = path_below f xs path in
            needs.none f there.edges (sym (cond-true _ _ _ (lt-ltb f node below)) ∙ sym (kept f) ∙ is) (path_as (IsMade p) E each e f there.edges there.path));
      }
    where
      apart : (f : ℕ) → f < node → f ≡ node → ⊥
      apart f lt is = omega (arith, lt, is)

      known : (f v : ℕ) (b : Bool) → nat_lt f node ≡ b → own f ≡ Some v → (f < node) × (all f ≡ Some v)
      known f v true t is = (ltb-true f node t, sym (cond-true _ _ _ t) ∙ sym (kept f) ∙ is)
      known f v false t is = absurd (let no : own f ≡ None = kept f ∙ ap (λ (b : Bool). if b then all f else None) t in cc)

      by_path : (f : ℕ) (other : f ≡ node → ⊥) (sum : ℕ) → IsOwnOrNear p formed n e f sum → (xs : List Edge) × IsPath (IsEdge p) e f xs
      by_path f other sum (inl (ne, own)) = (own.edges, own.path)
      by_path f other sum (inr (is, near)) = absurd (other is)

      path_below : (f : ℕ) (xs : List Edge) → IsPath (IsEdge p) e f xs → f < node
      path_below f [] path = omega (arith, small, path)
      path_below f (x ∷ xs) path = let below = edge_below p formed x path.0 in let to = path.1 in omega (arith, below, to)

  -- ---- recursion

  pub made_recursive : (e : ℕ) → IsRecursive (IsEdge p) e → IsRecursive E e
  made_recursive e r =
      let round = recursive_round (IsEdge p) e r in
      let before = through p formed (λ n. n) e round.at round.before round.path in
      let around = through p formed (λ n. n) round.at round.at round.around round.round in
      let some = round.some in
      let long = around.long in
      let joined : Joined E round.at round.at (suc (length around.edges - 1)) = record {
        edges = around.edges;
        path = path_as (IsMade p) E each round.at round.at around.edges around.path;
        count = omega (arith, some, long);
      } in
      round_recursive E e round.at (length around.edges - 1) before.edges (path_as (IsMade p) E each e round.at before.edges before.path) joined
