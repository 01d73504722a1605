-- Counts of loads: where at most one of some steps changes the quadwords, at most that one loads.
use Rattle.std.proofs.Common.{◌≡◌, ◌≢◌, ℕ, zero, suc, ◌+◌, ◌*◌, ◌<◌, refl, ap, ap₂, ◌∙◌, arith, inl, inr, Bool, true, false, not}
use Rattle.std.specs.Prelude.{◌==◌, ◌&&◌, ◌||◌, if◌then◌else◌}
use Rattle.std.proofs.lemmas.Bool.{cases_lt}
use Rattle.spu_ls.specs.Stores.{fetch}
use Rattle.spu_ls.specs.Machine.{State, step, steps}
use Rattle.spu_ls.specs.Loads.{makes, is_load, load_count}

-- a word that stays isn't made
stays_so : (v w r : ℕ) → v ≡ w → ((v == r) && not (w == r)) ≡ false
stays_so v w r e = ap (λ v. (v == r) && not (w == r)) e ∙ never (w == r)
  where
    never : (b : Bool) → (b && not b) ≡ false
    never true = refl
    never false = refl

pub kept_word : (at r : ℕ) (s : State) → fetch (step s).store at ≡ fetch s.store at → makes at r s ≡ false
kept_word at r s e = stays_so (fetch (step s).store at) (fetch s.store at) r e

-- no quadword's word is made r
pub no_load : (from n r : ℕ) (s : State) → ((k : ℕ) → k < n → makes (from + 16 * k) r s ≡ false) → is_load from n r s ≡ false
unfolding is_load
no_load from zero r s h = refl
no_load from (suc n) r s h = ap₂ (λ a b. a || b) (h n (omega arith)) (no_load from n r s (λ k l. h k (omega arith)))

-- none but one of them may be
pub one_load : (from n r at : ℕ) (s : State) → at < n → ((k : ℕ) → k < n → k ≢ at → makes (from + 16 * k) r s ≡ false) → is_load from n r s ≡ makes (from + 16 * at) r s
unfolding is_load
one_load from zero r at s l h = absurd (omega arith)
one_load from (suc n) r at s l h = elim (cases_lt at n) [
  | inl less ↦ ap₂ (λ a b. a || b) (h n (omega arith) (λ e. omega arith)) (one_load from n r at s less (λ k m ne. h k (omega arith) ne))
  | inr more ↦
      let e : n ≡ at = omega arith in
      ap₂ (λ a b. a || b) (ap (λ k. makes (from + 16 * k) r s) e) (no_load from n r s (λ k m. h k (omega arith) (λ i. omega arith))) ∙ or_false (makes (from + 16 * at) r s)
]
  where
    or_false : (b : Bool) → (b || false) ≡ b
    or_false true = refl
    or_false false = refl

-- no step loads
pub none_load : (from n r k : ℕ) (s : State) → ((j : ℕ) → j < k → is_load from n r (steps j s) ≡ false) → load_count from n r k s ≡ 0
unfolding load_count steps
none_load from n r zero s h = refl
none_load from n r (suc k) s h = ap₂ (λ b c. (if b then 1 else 0) + c) (h 0 (omega arith)) (none_load from n r k (step s) (λ j l. h (suc j) (omega arith)))

-- none but one does
pub one_loads : (from n r k at : ℕ) (s : State) → at < k → ((j : ℕ) → j < k → j ≢ at → is_load from n r (steps j s) ≡ false) → load_count from n r k s ≡ (if is_load from n r (steps at s) then 1 else 0)
unfolding load_count steps
one_loads from n r zero at s l h = absurd (omega arith)
one_loads from n r (suc k) zero s l h =
    let e = none_load from n r k (step s) (λ j m. h (suc j) (omega arith) (λ i. omega arith)) in
    ap (λ c. (if is_load from n r s then 1 else 0) + c) e ∙ omega arith
one_loads from n r (suc k) (suc at) s l h =
    ap₂ (λ b c. (if b then 1 else 0) + c) (h 0 (omega arith) (λ i. omega arith)) (one_loads from n r k at (step s) (omega arith) (λ j m ne. h (suc j) (omega arith) (λ i. ne (omega arith))))
    ∙ omega arith
