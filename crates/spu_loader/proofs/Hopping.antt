-- A run of the loader as a part of a hop.
use Rattle.std.proofs.Common.{◌≡◌, ℕ, zero, suc, ◌<◌, ◌≤◌, refl, ap, ap₂, ◌∙◌, arith, inl, inr, Bool, true, false, None}
use Rattle.std.specs.Prelude.{◌&&◌, if◌then◌else◌, is_none, IsTrue}
use Rattle.std.proofs.lemmas.Bool.{cond-true, cases_lt}
use Rattle.spu_ls.specs.Machine.{State, step, steps}
use Rattle.spu_ls.specs.Hops.{settles, Along}
use Rattle.spu_loader.specs.Entries.{Settles}

-- a machine that stands at a place settles at once
stays : (between : ℕ → Bool) (k : ℕ) (m : State) → between m.pc ≡ false → settles between k m ≡ m
unfolding settles
stays between zero m h = refl
stays between (suc k) m h = ap (λ b. if b && is_none m.ended then settles between k (step m) else m) h

goes_on : (between : ℕ → Bool) (m : State) → between m.pc ≡ true → m.ended ≡ None → (between m.pc && is_none m.ended) ≡ true
goes_on between m h e = ap₂ (λ b x. b && is_none x) h e

settles_there : (between : ℕ → Bool) (n k : ℕ) (m : State) → n ≤ k → ((j : ℕ) → j < n → (between (steps j m).pc && is_none (steps j m).ended) ≡ true) → between (steps n m).pc ≡ false → settles between k m ≡ steps n m
unfolding settles steps
settles_there between zero k m le along out = stays between k m out
settles_there between (suc n) zero m le along out = absurd (omega arith)
settles_there between (suc n) (suc k) m le along out =
    cond-true (between m.pc && is_none m.ended) (settles between k (step m)) m (along 0 (omega arith))
    ∙ settles_there between n k (step m) (omega arith) (λ j h. along (suc j) (omega arith)) out

keeps_along : (P : State → Type 0) (between : ℕ → Bool) (n k : ℕ) (m : State) → n ≤ k → ((j : ℕ) → j ≤ n → P (steps j m)) → between (steps n m).pc ≡ false → Along P between k m
unfolding Along steps
keeps_along P between n zero m le along out = along 0 (omega arith)
keeps_along P between zero (suc k) m le along out = (along 0 (omega arith), λ h. absurd (not_both (between m.pc) (is_none m.ended) out h))
  where
    not_both : (b c : Bool) → b ≡ false → IsTrue (b && c) → ⊥
    not_both b c e h = cc
keeps_along P between (suc n) (suc k) m le along out = (along 0 (omega arith), λ h. keeps_along P between n k (step m) (omega arith) (λ j l. along (suc j) (omega arith)) out)

pub settled : Settles
settled o p r a link s between x inside out =
    let c = x.arrived in
    let there : between (steps x.count s).pc ≡ false = ap between c.pc_is ∙ out in (
      settles_there between x.count 255 s x.within (λ j h. let u = x.underway j h in goes_on between (steps j s) (inside _ u.inside) u.running) there,
      keeps_along (λ m. m.regs 1 ≡ s.regs 1) between x.count 255 s x.within (λ j h. elim (cases_lt j x.count) [ inl l ↦ (x.underway j l).pointer | inr l ↦ (let e : j ≡ x.count = omega arith in ap (λ i. (steps i s).regs 1) e ∙ c.regs 1 refl) ]) there,
    )
