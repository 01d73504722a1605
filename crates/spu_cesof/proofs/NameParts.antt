-- Names one behind the other.
use Rattle.std.proofs.Common.{◌≡◌, ℕ, suc, ◌+◌, ◌-◌, ◌<◌, ◌≤◌, List, [], ◌∷◌, ◌++◌, length, take, refl, sym, ap, ◌∙◌, append_assoc, arith}
use Rattle.std.proofs.lemmas.List.{length-append, length-drop, length-take}
use Rattle.spu_elf.specs.Executables.{name_len, after_name}
use Rattle.spu_elf.proofs.ExecutableNames.{length_name}
use Rattle.spu_cesof.specs.Unpacking.{names_in, joined}

pub names_from : (rest : List ℕ) (n i : ℕ) → i < n → names_in rest (n - i) ≡ take (name_len rest) rest ∷ names_in (after_name rest) (n - (i + 1))
names_from rest n i lt = ap (names_in rest) one
  where
    one : n - i ≡ suc (n - (i + 1))
    one = omega arith

pub names_done : (rest : List ℕ) (n i : ℕ) → n ≤ i → names_in rest (n - i) ≡ []
names_done rest n i le = ap (names_in rest) none
  where
    none : n - i ≡ 0
    none = omega arith

pub joined-append : (xs ys : List (List ℕ)) → joined (xs ++ ys) ≡ joined xs ++ joined ys
joined-append [] ys = refl
joined-append (x ∷ xs) ys = ap (λ (z : List ℕ). x ++ 0 ∷ z) (joined-append xs ys) ∙ regroup x (joined xs) (joined ys)
  where
    regroup : (a b c : List ℕ) → a ++ (0 ∷ (b ++ c)) ≡ (a ++ 0 ∷ b) ++ c
    regroup a b c = simp append_assoc

pub joined_more : (xs : List (List ℕ)) (x : List ℕ) → length (joined (xs ++ x ∷ [])) ≡ length (joined xs) + length x + 1
joined_more xs x = omega (arith, ap length (joined-append xs (x ∷ [])), length-append (joined xs) (x ++ 0 ∷ []), length-append x (0 ∷ []))

pub shorter : (rest : List ℕ) → length (take (name_len rest) rest) + length (after_name rest) ≤ length rest
shorter rest = omega (arith, length_name rest, length-drop (name_len rest + 1) rest, length-take (name_len rest) rest)

pub record Listed (all : List (List ℕ)) (rest names : List ℕ) (count k : ℕ) : Type 0 where
  pub value : all ++ names_in rest (count - k) ≡ names_in names count
  pub many : length all ≡ k
  pub total : length (joined all) + length rest ≤ length names + k

pub listed_more : (all more : List (List ℕ)) (text after rest names : List ℕ) (count k : ℕ) → k < count → more ≡ all ++ text ∷ [] → text ≡ take (name_len rest) rest → after ≡ after_name rest → Listed all rest names count k → Listed more after names count (k + 1)
listed_more all more text after rest names count k lt e f g h = record {
  value = ap (λ (z : List (List ℕ)). z ++ names_in after (count - (k + 1))) e
      ∙ append_assoc all (text ∷ []) (names_in after (count - (k + 1)))
      ∙ ap (λ (z : List ℕ). all ++ z ∷ names_in after (count - (k + 1))) f
      ∙ ap (λ (z : List ℕ). all ++ take (name_len rest) rest ∷ names_in z (count - (k + 1))) g
      ∙ ap (λ (z : List (List ℕ)). all ++ z) (sym (names_from rest count k lt))
      ∙ h.value;
  many = omega (arith, ap length e, length-append all (text ∷ []), h.many);
  total = omega (arith, ap (λ (z : List (List ℕ)). length (joined z)) e, joined_more all text, ap length f, ap length g, shorter rest, h.total);
}
