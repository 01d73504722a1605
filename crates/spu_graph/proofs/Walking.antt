-- Walks along the edges of a function: what is passed, and what is taken so far.
use Rattle.std.proofs.Common.{◌≡◌, ℕ, ◌<◌, ◌⊎◌, inl, inr, Bool, true, false, List, ◌∷◌, length, Option, Some, refl, sym, ap, ◌∙◌, subst, arith}
use Rattle.std.specs.Prelude.{slice_get, ◌||◌, ◌==◌, max}
use Rattle.std.proofs.lemmas.Bool.{eqb-true}
use Rattle.spu_word.specs.Lists.{stands_on}
use Rattle.spu_graph.specs.declared.graph.Edge.{Edge}
use Rattle.spu_graph.specs.Edges.{rest_of}
use Rattle.spu_graph.specs.Peeling.{IsClosed, greatest_on, taken_by}

on_first : (x : ℕ) (xs : List ℕ) (k : ℕ) → stands_on (x ∷ xs) k ≡ true → (x ≡ k) ⊎ (stands_on xs k ≡ true)
on_first x xs k on = by_test (x == k) refl on
  where
    by_test : (b : Bool) → (x == k) ≡ b → (b || stands_on xs k) ≡ true → (x ≡ k) ⊎ (stands_on xs k ≡ true)
    by_test true t on = inl (eqb-true x k t)
    by_test false t on = inr on

pub passed_more : (edges : List Edge) (needs : List (Option ℕ)) (xs : List ℕ) (e : ℕ) (r : Option ℕ) → rest_of xs (Some e) ≡ e ∷ rest_of xs r → IsClosed edges needs e
    → (k : ℕ) → IsClosed edges needs k ⊎ (stands_on (rest_of xs (Some e)) k ≡ true) → IsClosed edges needs k ⊎ (stands_on (rest_of xs r) k ≡ true)
passed_more edges needs xs e r is closed k (inl done) = inl done
passed_more edges needs xs e r is closed k (inr on) = elim (on_first e (rest_of xs r) k (ap (λ (z : List ℕ). stands_on z k) (sym is) ∙ on)) as (λ q. IsClosed edges needs k ⊎ (stands_on (rest_of xs r) k ≡ true)) [
  | inl same ↦ inl (subst (IsClosed edges needs) same closed)
  | inr rest ↦ inr rest
]

pub shorter : (xs : List ℕ) (e : ℕ) (r : Option ℕ) → rest_of xs (Some e) ≡ e ∷ rest_of xs r → length (rest_of xs r) < length (rest_of xs (Some e))
shorter xs e r is = let n = ap length is in omega (arith, n)

pub taken_more : (frames : List ℕ) (needs : List (Option ℕ)) (edges : List Edge) (xs : List ℕ) (e : ℕ) (r : Option ℕ) (best all : ℕ) → rest_of xs (Some e) ≡ e ∷ rest_of xs r
    → max best (greatest_on frames needs edges (rest_of xs (Some e))) ≡ all → max (max best (taken_by frames needs (slice_get edges e))) (greatest_on frames needs edges (rest_of xs r)) ≡ all
taken_more frames needs edges xs e r best all is inv =
    let same = ap (greatest_on frames needs edges) is in omega (arith, same, inv)
