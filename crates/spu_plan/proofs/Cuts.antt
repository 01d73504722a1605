-- There is one cut.
use Rattle.std.proofs.Common.{◌≡◌, ℕ, ◌+◌, ◌≤◌, Bool, true, false, List, [], ◌∷◌, ◌++◌, refl, sym, ap, ap₂, ◌∙◌, subst, arith}
use Rattle.std.specs.Prelude.{sum}
use Rattle.std.proofs.lemmas.List.{append-nil}
use Rattle.std.specs.List.{concat}
use Rattle.std.proofs.lemmas.Bool.Decides.{nat_tests}
use Rattle.spu_plan.specs.Cuts.{stays, staying, overlaid, IsFull, AreRegions, IsCut}
use Rattle.spu_plan.proofs.Greedy.{sum_cons, front, behind, greedy, front_joins, front_ends, behind_joins, behind_begins, Fit, greedy_is_whole, greedy_is_regions}

-- sections that fit join
front_along : (b : ℕ) (ys zs : List ℕ) (t : ℕ) → t + sum ys ≤ b → front b t (ys ++ zs) ≡ ys ++ front b (t + sum ys) zs
front_along b [] zs t h = ap (λ n. front b n zs) (omega arith)
front_along b (y ∷ ys) zs t h =
    let s = sum_cons y ys in
    front_joins b t y (ys ++ zs) (omega (arith, s)) ∙ (ap (λ r. y ∷ r) (front_along b ys zs (t + y) (omega (arith, s))) ∙ ap (λ n. y ∷ (ys ++ front b n zs)) (omega (arith, s)))

behind_along : (b : ℕ) (ys zs : List ℕ) (t : ℕ) → t + sum ys ≤ b → behind b t (ys ++ zs) ≡ behind b (t + sum ys) zs
behind_along b [] zs t h = ap (λ n. behind b n zs) (omega arith)
behind_along b (y ∷ ys) zs t h =
    let s = sum_cons y ys in
    behind_joins b t y (ys ++ zs) (omega (arith, s)) ∙ (behind_along b ys zs (t + y) (omega (arith, s)) ∙ ap (λ n. behind b n zs) (omega (arith, s)))

-- behind a full region nothing joins, and the regions are those of a cut
pub record Behind (b t : ℕ) (regions : List (List ℕ)) : Type 0 where
  pub none : front b t (concat regions) ≡ []
  pub same : behind b t (concat regions) ≡ regions

begun : (b x : ℕ) (xs : List ℕ) (rest : List (List ℕ)) → x + sum xs ≤ b → Behind b (x + sum xs) rest → (x ∷ front b x (xs ++ concat rest)) ∷ behind b x (xs ++ concat rest) ≡ (x ∷ xs) ∷ rest
begun b x xs rest fits next =
    ap₂ (λ f r. (x ∷ f) ∷ r) (front_along b xs (concat rest) x fits ∙ (ap (λ f. xs ++ f) next.none ∙ append-nil xs)) (behind_along b xs (concat rest) x fits ∙ next.same)

behind_full : (b : ℕ) (regions : List (List ℕ)) (t : ℕ) → IsFull b t regions → AreRegions b regions → Behind b t regions
behind_full b [] t full each = record { none = refl; same = refl }
behind_full b ([] ∷ rest) t full each = (let none = each.0.some in absurd (omega arith))
behind_full b ((x ∷ xs) ∷ rest) t full each =
    let s = sum_cons x xs in
    let within = each.0.fits in
    let fits : x + sum xs ≤ b = omega (arith, s, within) in
    let next = behind_full b rest (x + sum xs) (subst (λ n. IsFull b n rest) s each.1) each.2 in
    record {
      none = front_ends b t x (xs ++ concat rest) full;
      same = behind_begins b t x (xs ++ concat rest) full ∙ begun b x xs rest fits next;
    }

-- a cut is the greedy one
pub is_greedy : (b : ℕ) (regions : List (List ℕ)) → AreRegions b regions → greedy b (concat regions) ≡ regions
is_greedy b [] each = refl
is_greedy b ([] ∷ rest) each = (let none = each.0.some in absurd (omega arith))
is_greedy b ((x ∷ xs) ∷ rest) each =
    let s = sum_cons x xs in
    let within = each.0.fits in
    let fits : x + sum xs ≤ b = omega (arith, s, within) in
    begun b x xs rest fits (behind_full b rest (x + sum xs) (subst (λ n. IsFull b n rest) s each.1) each.2)

pub cut_is_greedy : (b : ℕ) (sizes : List ℕ) (regions : List (List ℕ)) → IsCut b sizes regions → regions ≡ greedy b sizes
cut_is_greedy b sizes regions cut = sym (is_greedy b regions cut.each) ∙ ap (greedy b) cut.whole

pub one_cut : (b : ℕ) (sizes : List ℕ) (xs ys : List (List ℕ)) → IsCut b sizes xs → IsCut b sizes ys → xs ≡ ys
one_cut b sizes xs ys one two = cut_is_greedy b sizes xs one ∙ sym (cut_is_greedy b sizes ys two)

-- a buffer takes each section that doesn't stay
pub goes_fits : (b x : ℕ) (f : Bool) → stays b x f ≡ false → x ≤ b
goes_fits b x true e = cc
goes_fits b x false e = grind (arith, nat_tests)

fit_by : (b x : ℕ) (f v : Bool) (xs : List ℕ) (fs : List Bool) → stays b x f ≡ v → Fit b (overlaid (staying b xs fs) xs) → Fit b (overlaid (v ∷ staying b xs fs) (x ∷ xs))
fit_by b x f true xs fs e fit = fit
fit_by b x f false xs fs e fit = (goes_fits b x f e, fit)

pub overlaid_fit : (b : ℕ) (sizes : List ℕ) (rooted : List Bool) → Fit b (overlaid (staying b sizes rooted) sizes)
overlaid_fit b [] rooted = tt
overlaid_fit b (x ∷ xs) [] = tt
overlaid_fit b (x ∷ xs) (f ∷ fs) = fit_by b x f (stays b x f) xs fs refl (overlaid_fit b xs fs)

pub greedy_is_cut : (b : ℕ) (sizes : List ℕ) → Fit b sizes → IsCut b sizes (greedy b sizes)
greedy_is_cut b sizes fit = record { whole = greedy_is_whole b sizes; each = greedy_is_regions b sizes fit }
