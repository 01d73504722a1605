-- The steps of the loops over sections.
use Rattle.std.proofs.Common.{◌≡◌, ℕ, suc, ◌+◌, ◌≤◌, ◌<◌, Bool, true, false, List, [], ◌∷◌, ◌++◌, length, drop, get_or, refl, sym, ap, ap₂, ◌∙◌, subst, arith, append_assoc}
use Rattle.std.specs.Prelude.{sum, if◌then◌else◌}
use Rattle.std.proofs.lemmas.Bool.Decides.{nat_tests}
use Rattle.std.proofs.Math.Seq.{drop-cons}
use Rattle.std.proofs.lemmas.List.{append-nil}
use Rattle.spu_plan.specs.Cuts.{stays, staying, root_sizes, overlaid, spread, AreCut}
use Rattle.spu_plan.specs.Cutting.{joins, count_with, total_with}
use Rattle.spu_plan.proofs.Greedy.{sum_cons, greedy, numbered, last, all_numbered, all_counted}
use Rattle.spu_plan.proofs.Cuts.{goes_fits, overlaid_fit, greedy_is_cut}

-- ---- the bytes of the root

abbrev pub root_rest : ℕ → List ℕ → List Bool → ℕ
root_rest b sizes rooted = sum (root_sizes (staying b sizes rooted) sizes)

root_stays : (b x : ℕ) (f : Bool) (xs : List ℕ) (fs : List Bool) → stays b x f ≡ true → root_rest b (x ∷ xs) (f ∷ fs) ≡ x + root_rest b xs fs
root_stays b x f xs fs e = ap (λ v. sum (root_sizes (v ∷ staying b xs fs) (x ∷ xs))) e ∙ sum_cons x (root_sizes (staying b xs fs) xs)

root_goes : (b x : ℕ) (f : Bool) (xs : List ℕ) (fs : List Bool) → stays b x f ≡ false → root_rest b (x ∷ xs) (f ∷ fs) ≡ root_rest b xs fs
root_goes b x f xs fs e = ap (λ v. sum (root_sizes (v ∷ staying b xs fs) (x ∷ xs))) e

module _ (b : ℕ) (sizes : List ℕ) (rooted : List Bool) (k : ℕ) (here : k < length sizes) (flags : length rooted ≡ length sizes) where
  abbrev size_at : ℕ
  size_at = get_or sizes k 0

  abbrev flag_at : Bool
  flag_at = get_or rooted k false

  -- a property of the sections from k on, by the first of them
  by_first : {A : Type 0} (of : List ℕ → List Bool → A) → of (drop k sizes) (drop k rooted) ≡ of (size_at ∷ drop (k + 1) sizes) (flag_at ∷ drop (k + 1) rooted)
  by_first of =
      let there : k < length rooted = omega arith in
      let next : suc k ≡ k + 1 = omega arith in
      ap₂ of (drop-cons sizes k 0 here ∙ ap (λ n. size_at ∷ drop n sizes) next) (drop-cons rooted k false there ∙ ap (λ n. flag_at ∷ drop n rooted) next)

  pub root_at_stays : stays b size_at flag_at ≡ true → root_rest b (drop k sizes) (drop k rooted) ≡ size_at + root_rest b (drop (k + 1) sizes) (drop (k + 1) rooted)
  root_at_stays e = by_first (root_rest b) ∙ root_stays b size_at flag_at (drop (k + 1) sizes) (drop (k + 1) rooted) e

  pub root_at_goes : stays b size_at flag_at ≡ false → root_rest b (drop k sizes) (drop k rooted) ≡ root_rest b (drop (k + 1) sizes) (drop (k + 1) rooted)
  root_at_goes e = by_first (root_rest b) ∙ root_goes b size_at flag_at (drop (k + 1) sizes) (drop (k + 1) rooted) e

-- ---- the regions

-- the regions of these sections behind c regions, of which the last has t bytes
abbrev pub rest : ℕ → ℕ → ℕ → List ℕ → List Bool → List ℕ
rest b c t sizes rooted = spread (staying b sizes rooted) (numbered b c t (overlaid (staying b sizes rooted) sizes))

-- how many there are then
abbrev pub last_of : ℕ → ℕ → ℕ → List ℕ → List Bool → ℕ
last_of b c t sizes rooted = last b c t (overlaid (staying b sizes rooted) sizes)

abbrev rest_by : ℕ → ℕ → ℕ → ℕ → List ℕ → List Bool → Bool → List ℕ
rest_by b c t x xs fs v = spread (v ∷ staying b xs fs) (numbered b c t (overlaid (v ∷ staying b xs fs) (x ∷ xs)))

abbrev last_by : ℕ → ℕ → ℕ → ℕ → List ℕ → List Bool → Bool → ℕ
last_by b c t x xs fs v = last b c t (overlaid (v ∷ staying b xs fs) (x ∷ xs))

-- the sections before k have these regions, and c of them there are
pub record Cuts (b : ℕ) (sizes : List ℕ) (rooted : List Bool) (k : ℕ) (region_of : List ℕ) (c t : ℕ) : Type 0 where
  pub given : region_of ++ rest b c t (drop k sizes) (drop k rooted) ≡ rest b 0 0 sizes rooted
  pub counted : last_of b c t (drop k sizes) (drop k rooted) ≡ last_of b 0 0 sizes rooted
  pub few : c ≤ k
  pub fits : t ≤ b

pub cuts_none : (b : ℕ) (sizes : List ℕ) (rooted : List Bool) → Cuts b sizes rooted 0 [] 0 0
cuts_none b sizes rooted = record { given = refl; counted = refl; few = omega arith; fits = omega arith }

few_by : (v : Bool) (c k : ℕ) → c ≤ k → (if v then c else suc c) ≤ k + 1
few_by true c k h = omega arith
few_by false c k h = omega arith

fits_by : (v : Bool) (b t x : ℕ) → (v ≡ true → t + x ≤ b) → x ≤ b → (if v then (t + x) else x) ≤ b
fits_by true b t x h low = h refl
fits_by false b t x h low = low

joined_fits : (b c t x : ℕ) → joins b c t x ≡ true → t + x ≤ b
joined_fits b c t x e = grind (arith, nat_tests)

module _ (b : ℕ) (sizes : List ℕ) (rooted : List Bool) (k : ℕ) (region_of : List ℕ) (c t : ℕ) (cuts : Cuts b sizes rooted k region_of c t) (here : k < length sizes) (flags : length rooted ≡ length sizes) where
  abbrev x : ℕ
  x = get_or sizes k 0

  abbrev f : Bool
  f = get_or rooted k false

  abbrev xs : List ℕ
  xs = drop (k + 1) sizes

  abbrev fs : List Bool
  fs = drop (k + 1) rooted

  pub cuts_stays : stays b x f ≡ true → Cuts b sizes rooted (k + 1) (region_of ++ 0 ∷ []) c t
  cuts_stays e =
      let same : rest b c t (drop k sizes) (drop k rooted) ≡ 0 ∷ rest b c t xs fs = by_first b sizes rooted k here flags (rest b c t) ∙ ap (rest_by b c t x xs fs) e in
      let ends : last_of b c t (drop k sizes) (drop k rooted) ≡ last_of b c t xs fs = by_first b sizes rooted k here flags (last_of b c t) ∙ ap (last_by b c t x xs fs) e in
      let few = cuts.few in
      record {
        given = append_assoc region_of (0 ∷ []) (rest b c t xs fs) ∙ (ap (λ r. region_of ++ r) (sym same) ∙ cuts.given);
        counted = sym ends ∙ cuts.counted;
        few = omega arith;
        fits = cuts.fits;
      }

  cuts_goes_to : stays b x f ≡ false → count_with b c t x ≤ k + 1 → total_with b c t x ≤ b → Cuts b sizes rooted (k + 1) (region_of ++ count_with b c t x ∷ []) (count_with b c t x) (total_with b c t x)
  cuts_goes_to e few fits =
      let c' : ℕ = count_with b c t x in
      let t' : ℕ = total_with b c t x in
      let same : rest b c t (drop k sizes) (drop k rooted) ≡ c' ∷ rest b c' t' xs fs = by_first b sizes rooted k here flags (rest b c t) ∙ ap (rest_by b c t x xs fs) e in
      let ends : last_of b c t (drop k sizes) (drop k rooted) ≡ last_of b c' t' xs fs = by_first b sizes rooted k here flags (last_of b c t) ∙ ap (last_by b c t x xs fs) e in
      record {
        given = append_assoc region_of (c' ∷ []) (rest b c' t' xs fs) ∙ (ap (λ r. region_of ++ r) (sym same) ∙ cuts.given);
        counted = sym ends ∙ cuts.counted;
        few = few;
        fits = fits;
      }

  pub cuts_goes : stays b x f ≡ false → (c' t' : ℕ) → c' ≡ count_with b c t x → t' ≡ total_with b c t x → Cuts b sizes rooted (k + 1) (region_of ++ c' ∷ []) c' t'
  cuts_goes e c' t' ec et =
      subst (λ n. Cuts b sizes rooted (k + 1) (region_of ++ n ∷ []) n t') (sym ec) (subst (Cuts b sizes rooted (k + 1) (region_of ++ count_with b c t x ∷ []) (count_with b c t x)) (sym et)
      (cuts_goes_to e (few_by (joins b c t x) c k cuts.few) (fits_by (joins b c t x) b t x (joined_fits b c t x) (goes_fits b x f e))))

drop_all : (xs : List ℕ) → drop (length xs) xs ≡ []
drop_all [] = refl
drop_all (x ∷ xs) = drop_all xs

pub cuts_all : (b : ℕ) (sizes : List ℕ) (rooted : List Bool) (k : ℕ) (region_of : List ℕ) (c t : ℕ) → Cuts b sizes rooted k region_of c t → k ≡ length sizes → AreCut b sizes rooted region_of c
cuts_all b sizes rooted k region_of c t cuts all =
    let none : drop k sizes ≡ [] = ap (λ n. drop n sizes) all ∙ drop_all sizes in
    let over : List ℕ = overlaid (staying b sizes rooted) sizes in
    record {
      regions = greedy b over;
      cut = greedy_is_cut b over (overlaid_fit b sizes rooted);
      many = sym (ap (λ xs. last_of b c t xs (drop k rooted)) none) ∙ (cuts.counted ∙ all_counted b over);
      each = sym (append-nil region_of) ∙ (sym (ap (λ xs. region_of ++ rest b c t xs (drop k rooted)) none) ∙ (cuts.given ∙ ap (spread (staying b sizes rooted)) (all_numbered b over)));
    }
