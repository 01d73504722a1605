-- Areas whose names are one letter, each the next.
use Rattle.std.proofs.Common.{◌≡◌, ℕ, zero, suc, ◌+◌, List, [], ◌∷◌, ◌++◌, length, Some, None, sym, ap, ◌∙◌, subst, arith, length-append}
use Rattle.std.specs.Prelude.{slice_get}
use Rattle.spu_word.specs.declared.load.Area.{Area}
use Rattle.spu_ls.specs.Loading.{AreDistinct}

-- the names are the letters from n on
abbrev pub AreLettered : ℕ → List Area → Type 0
AreLettered n [] = Unit {0}
AreLettered n (a ∷ areas) = (a.name ≡ n ∷ []) × AreLettered (n + 1) areas

one_more : (n : ℕ) (areas : List Area) (a : Area) → AreLettered n areas → a.name ≡ (n + length areas) ∷ [] → AreLettered n (areas ++ a ∷ [])
one_more n [] a h e = (subst (λ k. a.name ≡ k ∷ []) (omega arith) e, _)
one_more n (x ∷ areas) a h e = (h.0, one_more (n + 1) areas a h.1 (subst (λ k. a.name ≡ k ∷ []) (omega arith) e))

letter_at : (n : ℕ) (areas : List Area) (i : ℕ) (a : Area) → AreLettered n areas → slice_get areas i ≡ Some a → a.name ≡ (n + i) ∷ []
letter_at n [] i a h e = absurd (none a e)
  where
    none : (a : Area) → None ≡ Some a → ⊥
    none a e = cc
letter_at n (x ∷ areas) zero a h e = let same : x ≡ a = cc in subst (λ k. a.name ≡ k ∷ []) (omega arith) (subst (λ (z : Area). z.name ≡ n ∷ []) same h.0)
letter_at n (x ∷ areas) (suc i) a h e = subst (λ k. a.name ≡ k ∷ []) (omega arith) (letter_at (n + 1) areas i a h.1 e)

pub lettered_distinct : (n : ℕ) (areas : List Area) → AreLettered n areas → AreDistinct areas
lettered_distinct n areas h i j a b p q same =
    let e : (n + i) ∷ [] ≡ (n + j) ∷ [] = sym (letter_at n areas i a h p) ∙ same ∙ letter_at n areas j b h q in
    let s : n + i ≡ n + j = cc in
    omega (arith, s)

-- one more area after as many as the number of its letter
pub lettered_more : (n k : ℕ) (areas more : List Area) (a : Area) → (length areas ≡ k) × AreLettered n areas → a.name ≡ (n + k) ∷ [] → more ≡ areas ++ a ∷ [] → (length more ≡ k + 1) × AreLettered n more
lettered_more n k areas more a h e is =
    let size = length-append areas (a ∷ []) in
    let count : length areas ≡ k = h.0 in
    let whole : (length (areas ++ a ∷ []) ≡ k + 1) × AreLettered n (areas ++ a ∷ []) =
    (omega arith, one_more n areas a h.1 (e ∙ ap (λ j. (n + j) ∷ []) (sym count))) in
    subst (λ xs. (length xs ≡ k + 1) × AreLettered n xs) (sym is) whole
