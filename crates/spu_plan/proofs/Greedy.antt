-- The one cut of sections, as a function: how further sections join the last region or begin others.
use Rattle.std.proofs.Common.{◌≡◌, ℕ, suc, ◌+◌, ◌≤◌, ◌<◌, ◌⊎◌, Bool, true, false, List, [], ◌∷◌, ◌++◌, length, refl, sym, ap, ◌∙◌, inl, inr, ⊎_elim, subst, arith}
use Rattle.std.specs.Prelude.{nat_le, sum, replicate, if◌then◌else◌}
use Rattle.std.specs.List.{concat}
use Rattle.std.proofs.lemmas.Bool.{cases_lt}
use Rattle.std.proofs.lemmas.Bool.Decides.{nat_tests}
use Rattle.std.proofs.lemmas.List.Sums.{sum_by-cons}
use Rattle.spu_plan.specs.Cuts.{numbers, IsFull, AreRegions}
use Rattle.spu_plan.specs.Cutting.{joins, count_with, total_with}

pub sum_cons : (x : ℕ) (xs : List ℕ) → sum (x ∷ xs) ≡ x + sum xs
sum_cons x xs = sum_by-cons (λ n. n) x xs

pub le_true : (m n : ℕ) → m ≤ n → nat_le m n ≡ true
le_true m n h = grind (arith, nat_tests)

pub le_false : (m n : ℕ) → n < m → nat_le m n ≡ false
le_false m n h = grind (arith, nat_tests)

-- behind sections of a region with t bytes: those of xs that join it, and the regions of the others
abbrev pub front : ℕ → ℕ → List ℕ → List ℕ
front b t [] = []
front b t (x ∷ xs) = if nat_le (t + x) b then (x ∷ front b (t + x) xs) else []

abbrev pub behind : ℕ → ℕ → List ℕ → List (List ℕ)
behind b t [] = []
behind b t (x ∷ xs) = if nat_le (t + x) b then behind b (t + x) xs else ((x ∷ front b x xs) ∷ behind b x xs)

abbrev pub greedy : ℕ → List ℕ → List (List ℕ)
greedy b [] = []
greedy b (x ∷ xs) = (x ∷ front b x xs) ∷ behind b x xs

module _ (b t x : ℕ) (xs : List ℕ) where
  pub front_joins : t + x ≤ b → front b t (x ∷ xs) ≡ x ∷ front b (t + x) xs
  front_joins h = ap (λ v. if v then (x ∷ front b (t + x) xs) else []) (le_true (t + x) b h)

  pub front_ends : b < t + x → front b t (x ∷ xs) ≡ []
  front_ends h = ap (λ v. if v then (x ∷ front b (t + x) xs) else []) (le_false (t + x) b h)

  pub behind_joins : t + x ≤ b → behind b t (x ∷ xs) ≡ behind b (t + x) xs
  behind_joins h = ap (λ v. if v then behind b (t + x) xs else ((x ∷ front b x xs) ∷ behind b x xs)) (le_true (t + x) b h)

  pub behind_begins : b < t + x → behind b t (x ∷ xs) ≡ (x ∷ front b x xs) ∷ behind b x xs
  behind_begins h = ap (λ v. if v then behind b (t + x) xs else ((x ∷ front b x xs) ∷ behind b x xs)) (le_false (t + x) b h)

-- a further section joins or not
pub cases_le : (m n : ℕ) → (m ≤ n) ⊎ (n < m)
cases_le m n = ⊎_elim (λ h. inr h) (λ h. inl h) (cases_lt n m)

-- ---- it is a cut

pub whole_front : (b : ℕ) (xs : List ℕ) (t : ℕ) → front b t xs ++ concat (behind b t xs) ≡ xs
whole_front b [] t = refl
whole_front b (x ∷ xs) t =
    ⊎_elim (λ h. ap (λ f. f ++ concat (behind b t (x ∷ xs))) (front_joins b t x xs h) ∙ (ap (λ r. x ∷ (front b (t + x) xs ++ concat r)) (behind_joins b t x xs h) ∙ ap (λ r. x ∷ r) (whole_front b xs (t + x))))
    (λ h. ap (λ f. f ++ concat (behind b t (x ∷ xs))) (front_ends b t x xs h) ∙ (ap concat (behind_begins b t x xs h) ∙ ap (λ r. x ∷ r) (whole_front b xs x)))
    (cases_le (t + x) b)

pub front_fits : (b : ℕ) (xs : List ℕ) (t : ℕ) → t ≤ b → t + sum (front b t xs) ≤ b
front_fits b [] t h = omega arith
front_fits b (x ∷ xs) t h =
    ⊎_elim (λ q. (let e = front_joins b t x xs q in let s = sum_cons x (front b (t + x) xs) in let rest = front_fits b xs (t + x) q in let same : sum (front b t (x ∷ xs)) ≡ x + sum (front b (t + x) xs) = ap sum e ∙ s in omega (arith, same, rest)))
    (λ q. (let same : sum (front b t (x ∷ xs)) ≡ 0 = ap sum (front_ends b t x xs q) in omega (arith, same)))
    (cases_le (t + x) b)

pub front_is_full : (b : ℕ) (xs : List ℕ) (t : ℕ) → IsFull b (t + sum (front b t xs)) (behind b t xs)
front_is_full b [] t = tt
front_is_full b (x ∷ xs) t =
    ⊎_elim (λ q.
    let same : t + sum (front b t (x ∷ xs)) ≡ t + x + sum (front b (t + x) xs) = (let e = ap sum (front_joins b t x xs q) in let s = sum_cons x (front b (t + x) xs) in omega (arith, e, s)) in
    subst (λ n. IsFull b n (behind b t (x ∷ xs))) (sym same) (subst (IsFull b (t + x + sum (front b (t + x) xs))) (sym (behind_joins b t x xs q)) (front_is_full b xs (t + x))))
    (λ q.
    let same : t + sum (front b t (x ∷ xs)) ≡ t = (let e = ap sum (front_ends b t x xs q) in omega (arith, e)) in
    subst (λ n. IsFull b n (behind b t (x ∷ xs))) (sym same) (subst (IsFull b t) (sym (behind_begins b t x xs q)) q))
    (cases_le (t + x) b)

-- a buffer takes each of these sections
abbrev pub Fit : ℕ → List ℕ → Type 0
Fit b [] = Unit {0}
Fit b (x ∷ xs) = (x ≤ b) × Fit b xs

-- the region that begins with a section
pub region_begins : (b x : ℕ) (xs : List ℕ) → x ≤ b → AreRegions b (behind b x xs) → AreRegions b ((x ∷ front b x xs) ∷ behind b x xs)
region_begins b x xs h rest =
    let same = sum_cons x (front b x xs) in
    (record { some = omega arith; fits = (let f = front_fits b xs x h in omega (arith, same, f)) }, subst (λ n. IsFull b n (behind b x xs)) (sym same) (front_is_full b xs x), rest)

pub behind_are_regions : (b : ℕ) (xs : List ℕ) (t : ℕ) → Fit b xs → AreRegions b (behind b t xs)
behind_are_regions b [] t fit = tt
behind_are_regions b (x ∷ xs) t fit =
    ⊎_elim (λ q. subst (AreRegions b) (sym (behind_joins b t x xs q)) (behind_are_regions b xs (t + x) fit.1))
    (λ q. subst (AreRegions b) (sym (behind_begins b t x xs q)) (region_begins b x xs fit.0 (behind_are_regions b xs x fit.1)))
    (cases_le (t + x) b)

pub greedy_is_whole : (b : ℕ) (xs : List ℕ) → concat (greedy b xs) ≡ xs
greedy_is_whole b [] = refl
greedy_is_whole b (x ∷ xs) = ap (λ r. x ∷ r) (whole_front b xs x)

pub greedy_is_regions : (b : ℕ) (xs : List ℕ) → Fit b xs → AreRegions b (greedy b xs)
greedy_is_regions b [] fit = tt
greedy_is_regions b (x ∷ xs) fit = region_begins b x xs fit.0 (behind_are_regions b xs x fit.1)

-- ---- the numbers that the code gives

abbrev pub numbered : ℕ → ℕ → ℕ → List ℕ → List ℕ
numbered b c t [] = []
numbered b c t (x ∷ xs) = count_with b c t x ∷ numbered b (count_with b c t x) (total_with b c t x) xs

abbrev pub last : ℕ → ℕ → ℕ → List ℕ → ℕ
last b c t [] = c
last b c t (x ∷ xs) = last b (count_with b c t x) (total_with b c t x) xs

joins_at : (b k t x : ℕ) → t + x ≤ b → joins b (suc k) t x ≡ true
joins_at b k t x h = grind (arith, nat_tests)

begins_at : (b c t x : ℕ) → b < t + x → joins b c t x ≡ false
begins_at b c t x h = grind (arith, nat_tests)

begins_first : (b t x : ℕ) → joins b 0 t x ≡ false
begins_first b t x = grind (arith, nat_tests)

abbrev stepped : ℕ → ℕ → ℕ → ℕ → List ℕ → Bool → List ℕ
stepped b c t x xs v = (if v then c else suc c) ∷ numbered b (if v then c else suc c) (if v then (t + x) else x) xs

abbrev counted : ℕ → ℕ → ℕ → ℕ → List ℕ → Bool → ℕ
counted b c t x xs v = last b (if v then c else suc c) (if v then (t + x) else x) xs

pub numbered_are : (b : ℕ) (xs : List ℕ) (k t : ℕ) → numbered b (suc k) t xs ≡ replicate (length (front b t xs)) (suc k) ++ numbers (suc (suc k)) (behind b t xs)
numbered_are b [] k t = refl
numbered_are b (x ∷ xs) k t =
    ⊎_elim (λ q. ap (stepped b (suc k) t x xs) (joins_at b k t x q) ∙ (ap (λ r. suc k ∷ r) (numbered_are b xs k (t + x))
    ∙ (ap (λ f. replicate (length f) (suc k) ++ numbers (suc (suc k)) (behind b (t + x) xs)) (sym (front_joins b t x xs q)) ∙ ap (λ r. replicate (length (front b t (x ∷ xs))) (suc k) ++ numbers (suc (suc k)) r) (sym (behind_joins b t x xs q)))))
    (λ q. ap (stepped b (suc k) t x xs) (begins_at b (suc k) t x q) ∙ (ap (λ r. suc (suc k) ∷ r) (numbered_are b xs (suc k) x)
    ∙ (ap (λ f. replicate (length f) (suc k) ++ numbers (suc (suc k)) ((x ∷ front b x xs) ∷ behind b x xs)) (sym (front_ends b t x xs q)) ∙ ap (λ r. replicate (length (front b t (x ∷ xs))) (suc k) ++ numbers (suc (suc k)) r) (sym (behind_begins b t x xs q)))))
    (cases_le (t + x) b)

pub last_is : (b : ℕ) (xs : List ℕ) (k t : ℕ) → last b (suc k) t xs ≡ suc k + length (behind b t xs)
last_is b [] k t = omega arith
last_is b (x ∷ xs) k t =
    ⊎_elim (λ q. ap (counted b (suc k) t x xs) (joins_at b k t x q) ∙ (last_is b xs k (t + x) ∙ ap (λ r. suc k + length r) (sym (behind_joins b t x xs q))))
    (λ q. (let e = ap (counted b (suc k) t x xs) (begins_at b (suc k) t x q) ∙ last_is b xs (suc k) x in let long : length (behind b t (x ∷ xs)) ≡ suc (length (behind b x xs)) = ap length (behind_begins b t x xs q) in omega (arith, e, long)))
    (cases_le (t + x) b)

pub all_numbered : (b : ℕ) (xs : List ℕ) → numbered b 0 0 xs ≡ numbers 1 (greedy b xs)
all_numbered b [] = refl
all_numbered b (x ∷ xs) = ap (stepped b 0 0 x xs) (begins_first b 0 x) ∙ ap (λ r. 1 ∷ r) (numbered_are b xs 0 x)

pub all_counted : (b : ℕ) (xs : List ℕ) → last b 0 0 xs ≡ length (greedy b xs)
all_counted b [] = refl
all_counted b (x ∷ xs) = ap (counted b 0 0 x xs) (begins_first b 0 x) ∙ (last_is b xs 0 x ∙ omega arith)
