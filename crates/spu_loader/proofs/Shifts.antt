-- The sizes of buffers, which are powers of two, and the shift by which the loader divides by one.
use Rattle.std.proofs.Common.{◌≡◌, ℕ, zero, suc, ◌+◌, ◌-◌, ◌*◌, ◌/◌, ◌%◌, ◌<◌, ◌≤◌, ◌^◌, List, ◌∙◌, refl, subst, arith, inl, inr, negsuc}
use Rattle.std.proofs.lemmas.Bool.{cases_lt}
use Rattle.std.proofs.lemmas.Nat.{pow_below}
use Rattle.std.proofs.Math.Pow.{pow_mono}
use Rattle.std.proofs.Math.Nat.{pow-suc}
use Rattle.spu_isa.specs.declared.operation.Op.TheVariants as op
use Rattle.spu_exec.specs.Lanes.{immediate, right_by}
use Rattle.spu_loader.specs.Forms.{ri}
use Rattle.spu_loader.proofs.Opaque.{wd, val, val-words}

-- the greatest power of two in a power of two is that one
pub same_power : (n a b : ℕ) → 2 ^ a ≤ n → n < 2 * 2 ^ a → n ≡ 2 ^ b → a ≡ b
same_power n a b low high is = elim (cases_lt a b) [
  | inl less ↦ absurd (let next = pow_mono {i = suc a} {j = b} (omega arith) in let double = pow-suc 2 a in omega arith)
  | inr more ↦ elim (cases_lt b a) [ inl less ↦ absurd (let below = pow_below b a less in omega arith) | inr same ↦ omega arith ]
]

-- the seven shifts
shift_from_10 : (P : ℕ → Type 0) → P 10 → P 11 → P 12 → P 13 → P 14 → P 15 → P 16 → (j : ℕ) → j ≤ 6 → P (j + 10)
shift_from_10 P a b c d e f g zero h = a
shift_from_10 P a b c d e f g (suc zero) h = b
shift_from_10 P a b c d e f g (suc (suc zero)) h = c
shift_from_10 P a b c d e f g (suc (suc (suc zero))) h = d
shift_from_10 P a b c d e f g (suc (suc (suc (suc zero)))) h = e
shift_from_10 P a b c d e f g (suc (suc (suc (suc (suc zero))))) h = f
shift_from_10 P a b c d e f g (suc (suc (suc (suc (suc (suc zero)))))) h = g
shift_from_10 P a b c d e f g (suc (suc (suc (suc (suc (suc (suc j))))))) h = absurd (omega arith)

pub by_shift : (P : ℕ → Type 0) → P 10 → P 11 → P 12 → P 13 → P 14 → P 15 → P 16 → (s : ℕ) → 10 ≤ s → s ≤ 16 → P s
by_shift P a b c d e f g s low high = let is : s - 10 + 10 ≡ s = omega arith in subst P is (shift_from_10 P a b c d e f g (s - 10) (omega arith))

-- the loader's shift is the division by a buffer's size
pub val-shift : (s : ℕ) (a b c u : List ℕ) → 10 ≤ s → s ≤ 16 → wd a 0 < 2 ^ 32 → wd (val (ri op.Rotmi 77 77 (negsuc (s - 1))) a b c u) 0 ≡ wd a 0 / 2 ^ s
val-shift s a b c u low high lt =
    val-words (ri op.Rotmi 77 77 (negsuc (s - 1))) a b c u 0 (omega arith) refl
    ∙ by_shift (λ s. wd a 0 / 2 ^ right_by 32 (immediate 4 (negsuc (s - 1))) % 2 ^ 32 ≡ wd a 0 / 2 ^ s) (omega arith) (omega arith) (omega arith) (omega arith) (omega arith) (omega arith) (omega arith) s low high
