-- A recursive path holds a round: a path from a function to itself.
use Rattle.std.proofs.Common.{◌≡◌, ℕ, zero, suc, ◌+◌, ◌-◌, ◌≤◌, List, [], ◌∷◌, length, refl, sym, ap, ◌∙◌, subst, arith}
use Rattle.std.specs.Prelude.{slice_index}
use Rattle.std.proofs.lemmas.List.{length-map}
use Rattle.spu_graph.specs.declared.graph.Edge.{Edge}
use Rattle.spu_graph.specs.Paths.{IsPath, functions_on, IsRecursive}

-- a path to g, cut at the i-th function from its end
record IsCut (E : Edge → Type 0) (e g : ℕ) (xs : List Edge) (i : ℕ) : Type 0 where
  middle : ℕ
  behind : List Edge
  before : List Edge
  path_behind : IsPath E middle g behind
  path_before : IsPath E e middle before
  count : length behind ≡ i
  whole : length behind + length before ≡ length xs
  same : (m k : ℕ) → m ≡ i + k → slice_index (functions_on g xs) m ≡ slice_index (functions_on middle before) k

cut : (E : Edge → Type 0) (e g : ℕ) (xs : List Edge) (i : ℕ) → i ≤ length xs → IsPath E e g xs → IsCut E e g xs i
unfolding IsPath
cut E e g xs zero le path =
    record {
      middle = g;
      behind = [];
      before = xs;
      path_behind = refl;
      path_before = path;
      count = refl;
      whole = omega arith;
      same = λ m k is. ap (slice_index (functions_on g xs)) (let at : m ≡ k = omega (arith, is) in at);
    }
cut E e g [] (suc i) le path = absurd (omega (arith, le))
cut E e g (x ∷ xs) (suc i) le (edge, to, path) =
    let c = cut E e x.from xs i (omega (arith, le)) path in
    let count = c.count in
    let whole = c.whole in
    record {
      middle = c.middle;
      behind = x ∷ c.behind;
      before = c.before;
      path_behind = (edge, to, c.path_behind);
      path_before = c.path_before;
      count = omega (arith, count);
      whole = omega (arith, whole);
      same = more c.middle c.before c.same;
    }
  where
    more : (n : ℕ) (ys : List Edge) → ((m k : ℕ) → m ≡ i + k → slice_index (functions_on x.from xs) m ≡ slice_index (functions_on n ys) k)
        → (m k : ℕ) → m ≡ suc i + k → slice_index (functions_on g (x ∷ xs)) m ≡ slice_index (functions_on n ys) k
    more n ys h zero k is = absurd (omega (arith, is))
    more n ys h (suc m) k is = h m k (omega (arith, is))

-- a path to a function, and one from it to itself
pub record IsRound (E : Edge → Type 0) (e : ℕ) : Type 0 where
  pub at : ℕ
  pub before : List Edge
  pub around : List Edge
  pub path : IsPath E e at before
  pub round : IsPath E at at around
  pub some : 1 ≤ length around

pub recursive_round : (E : Edge → Type 0) (e : ℕ) → IsRecursive E e → IsRound E e
recursive_round E e r =
    let apart = r.apart in
    let within = r.within in
    let long = length-map r.edges (λ x. x.from) in
    let one = cut E e r.last r.edges r.i (omega (arith, apart, within, long)) r.path in
    let count = one.count in
    let whole = one.whole in
    let two = cut E e one.middle one.before (r.j - r.i) (omega (arith, apart, within, long, count, whole)) one.path_before in
    let first : slice_index (functions_on r.last r.edges) r.i ≡ one.middle = one.same r.i 0 (omega arith) in
    let second : slice_index (functions_on r.last r.edges) r.j ≡ two.middle = one.same r.j (r.j - r.i) (omega (arith, apart)) ∙ two.same (r.j - r.i) 0 (omega arith) in
    let is : two.middle ≡ one.middle = sym second ∙ sym r.same ∙ first in
    let more = two.count in
    record {
      at = one.middle;
      before = two.before;
      around = two.behind;
      path = subst (λ h. IsPath E e h two.before) is two.path_before;
      round = subst (λ h. IsPath E h one.middle two.behind) is two.path_behind;
      some = omega (arith, more, apart);
    }
