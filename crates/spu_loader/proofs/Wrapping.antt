-- A branch by a field of 16 bits, which wraps as addresses do.
use Rattle.std.proofs.Common.{◌≡◌, ℕ, suc, ◌+◌, ◌-◌, ◌*◌, ◌%◌, ◌<◌, ◌^◌, ◌∙◌, ap, arith, inl, inr, pos, negsuc}
use Rattle.std.specs.Prelude.{nat_lt, ◌-ℤ◌}
use Rattle.std.proofs.lemmas.Bool.{cond-true, cond-false, lt-ltb, le-ltb, cases_lt}
use Rattle.spu_isa.specs.Table.{signed}
use Rattle.spu_exec.specs.Lanes.{immediate}
use Rattle.spu_exec.specs.Places.{code_mask}

signed_small : (width i : ℕ) → i < 2 ^ (width - 1) → signed width i ≡ pos i
signed_small width i h = cond-true (nat_lt i (2 ^ (width - 1))) (pos i) (pos i -ℤ pos (2 ^ width)) (lt-ltb _ _ h)

-- a branch by n words leads there
pub branch_leads : (n pc to : ℕ) → n < 65536 → pc % 4 ≡ 0 → to ≡ pc + 4 * n → to < 262144 → code_mask (pc + 4 * immediate 4 (signed 16 n)) ≡ to
branch_leads n pc to small al e fits = elim (cases_lt n 32768) [
  | inl low ↦ ap (λ i. code_mask (pc + 4 * immediate 4 i)) (signed_small 16 n low) ∙ omega arith
  | inr high ↦
      let e1 : signed 16 n ≡ negsuc (65536 - suc n) =
      cond-false (nat_lt n (2 ^ 15)) (pos n) (pos n -ℤ pos (2 ^ 16)) (le-ltb _ _ high) ∙ cond-true (nat_lt n 65536) (negsuc (65536 - suc n)) (pos (n - 65536)) (lt-ltb _ _ small) in
      ap (λ i. code_mask (pc + 4 * immediate 4 i)) e1 ∙ omega arith
]
