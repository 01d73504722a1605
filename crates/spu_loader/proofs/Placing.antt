-- Words that are placed in a store are read there.
use Rattle.std.proofs.Common.{◌≡◌, ℕ, zero, suc, ◌+◌, ◌-◌, ◌*◌, ◌<◌, ◌^◌, List, [], ◌∷◌, ◌++◌, length, get_or, refl, ap, ◌∙◌, arith}
use Rattle.std.specs.List.{flat_map}
use Rattle.spu_word.specs.Bytes.{be_digits, quad_of}
use Rattle.spu_ls.specs.Stores.{Store, load, fetch, placed, bytes_from}
use Rattle.spu_loader.proofs.Stores.{placed_inside}

-- each is below 2 ^ 32
abbrev pub AllWords : List ℕ → Type 0
AllWords [] = Unit {0}
AllWords (w ∷ ws) = (w < 2 ^ 32) × AllWords ws

pub digits_length : (ws : List ℕ) → length (flat_map be_digits ws) ≡ 4 * length ws
digits_length [] = refl
digits_length (w ∷ ws) = let e = digits_length ws in omega arith

word_at : (ws : List ℕ) (n : ℕ) → AllWords ws → get_or ws n 0 < 2 ^ 32
word_at [] n h = omega arith
word_at (w ∷ ws) zero h = h.0
word_at (w ∷ ws) (suc n) h = word_at ws n h.1

four_ahead : (x a b c d : ℕ) (xs : List ℕ) (n j : ℕ) → get_or (a ∷ b ∷ c ∷ d ∷ xs) (4 * suc n + j) 0 ≡ get_or xs (4 * n + j) 0
four_ahead x a b c d xs n j = let e : 4 * suc n + j ≡ suc (suc (suc (suc (4 * n + j)))) = omega arith in ap (λ i. get_or (a ∷ b ∷ c ∷ d ∷ xs) i 0) e

digit_at : (ws : List ℕ) (n j : ℕ) → n < length ws → j < 4 → get_or (flat_map be_digits ws) (4 * n + j) 0 ≡ get_or (be_digits (get_or ws n 0)) j 0
digit_at [] n j h l = absurd (omega arith)
digit_at (w ∷ ws) zero zero h l = refl
digit_at (w ∷ ws) zero (suc zero) h l = refl
digit_at (w ∷ ws) zero (suc (suc zero)) h l = refl
digit_at (w ∷ ws) zero (suc (suc (suc zero))) h l = refl
digit_at (w ∷ ws) zero (suc (suc (suc (suc j)))) h l = absurd (omega arith)
digit_at (w ∷ ws) (suc n) j h l = four_ahead w _ _ _ _ (flat_map be_digits ws) n j ∙ digit_at ws n j (omega arith) l

module _ (a : ℕ) (ws : List ℕ) (m : Store) where
  byte_at : (p n j : ℕ) → p ≡ a + (4 * n + j) → n < length ws → j < 4 → placed a (flat_map be_digits ws) m p ≡ get_or (be_digits (get_or ws n 0)) j 0
  byte_at p n j e h l =
      let long = digits_length ws in
      let i : p - a ≡ 4 * n + j = omega arith in
      placed_inside m a (flat_map be_digits ws) p (omega arith) (omega arith) ∙ ap (λ i. get_or (flat_map be_digits ws) i 0) i ∙ digit_at ws n j h l

  pub fetch_placed : (p n : ℕ) → p ≡ a + 4 * n → n < length ws → AllWords ws → fetch (placed a (flat_map be_digits ws) m) p ≡ get_or ws n 0
  unfolding fetch
  fetch_placed p n e h small =
      let w = word_at ws n small in
      let b0 = byte_at p n 0 (omega arith) h (omega arith) in
      let b1 = byte_at (p + 1) n 1 (omega arith) h (omega arith) in
      let b2 = byte_at (p + 2) n 2 (omega arith) h (omega arith) in
      let b3 = byte_at (p + 3) n 3 (omega arith) h (omega arith) in
      omega (arith, b0, b1, b2, b3)

  cons_same : (x y : ℕ) (xs ys : List ℕ) → x ≡ y → xs ≡ ys → (x ∷ xs) ≡ (y ∷ ys)
  cons_same x y xs ys e f = cc

  -- the digits of word n in front of other bytes
  word_bytes : (p n k : ℕ) (ys : List ℕ) → p ≡ a + 4 * n → n < length ws → bytes_from (placed a (flat_map be_digits ws) m) (p + 4) k ≡ ys → bytes_from (placed a (flat_map be_digits ws) m) p (suc (suc (suc (suc k)))) ≡ be_digits (get_or ws n 0) ++ ys
  word_bytes p n k ys e h rest =
      let e2 : p + 1 + 1 ≡ p + 2 = omega arith in
      let e3 : p + 1 + 1 + 1 ≡ p + 3 = omega arith in
      let e4 : p + 1 + 1 + 1 + 1 ≡ p + 4 = omega arith in
      let st : Store = placed a (flat_map be_digits ws) m in
      cons_same _ _ _ _ (byte_at p n 0 (omega arith) h (omega arith))
      (cons_same _ _ _ _ (byte_at (p + 1) n 1 (omega arith) h (omega arith))
      (cons_same _ _ _ _ (byte_at (p + 1 + 1) n 2 (omega arith) h (omega arith))
      (cons_same _ _ _ _ (byte_at (p + 1 + 1 + 1) n 3 (omega arith) h (omega arith)) (ap (λ i. bytes_from st i k) e4 ∙ rest))))

  pub load_placed : (p n : ℕ) → p ≡ a + 4 * n → n + 3 < length ws → load (placed a (flat_map be_digits ws) m) p ≡ quad_of (get_or ws n 0) (get_or ws (n + 1) 0) (get_or ws (n + 2) 0) (get_or ws (n + 3) 0)
  unfolding load
  load_placed p n e h =
      word_bytes p n 12 _ e (omega arith) (word_bytes (p + 4) (n + 1) 8 _ (omega arith) (omega arith) (word_bytes (p + 4 + 4) (n + 2) 4 _ (omega arith) (omega arith) (word_bytes (p + 4 + 4 + 4) (n + 3) 0 [] (omega arith) (omega arith) refl)))
