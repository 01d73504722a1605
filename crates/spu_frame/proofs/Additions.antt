-- A place adds one amount to the depth, and good frames have no fault.
use Rattle.std.proofs.Common.{◌≡◌, ℕ, zero, suc, ◌<◌, ◌⊎◌, inl, inr, Some, refl, sym, ap, ◌∙◌, subst, arith, ℤ, pos}
use Rattle.std.specs.Prelude.{◌-ℤ◌}
use Rattle.spu_isa.specs.Table.{row_of}
use Rattle.spu_lift.specs.declared.program.Prog.{Prog}
use Rattle.spu_lift.specs.Places.{instruction_at}
use Rattle.spu_frame.specs.Walks.{Holds, IsKnownWrite, AddsImmediate, AddsRegister, Adds}
use Rattle.spu_frame.specs.Frames.{AreGood}
use Rattle.spu_frame.specs.declared.faults.FrameKind.{FrameKind}
use Rattle.spu_frame.specs.declared.faults.FrameKind.TheVariants.{StackWrite, DepthDisagrees, DepthAtExit, DepthRange}
use Rattle.spu_frame.specs.Faults.{IsFaulty}
use Rattle.spu_frame.proofs.Walks.{same_instruction}

pub nat_equal : (m n : ℕ) → (m ≡ n) ⊎ (m ≡ n → ⊥)
nat_equal zero zero = inl refl
nat_equal zero (suc n) = inr (λ e. omega (arith, e))
nat_equal (suc m) zero = inr (λ e. omega (arith, e))
nat_equal (suc m) (suc n) = elim (nat_equal m n) as (λ s. (suc m ≡ suc n) ⊎ (suc m ≡ suc n → ⊥)) [ inl e ↦ inl (ap suc e) | inr ne ↦ inr (λ e. ne (omega (arith, e))) ]

-- of two `il` that hold a register at a place the later one would have written it in between
holds_later : (p : Prog) (f h g r i : ℕ) (k m : ℤ) → Holds p f h r k i → Holds p f g r m i → h < g → ⊥
holds_later p f h g r i k m a b lt = a.kept g b.x lt b.before b.here (ap (λ o. (row_of o).writes) b.il, b.register)

pub place_cases : (m n : ℕ) → (m < n) ⊎ ((n < m) ⊎ (m ≡ n))
place_cases zero zero = inr (inr refl)
place_cases zero (suc n) = inl (omega arith)
place_cases (suc m) zero = inr (inl (omega arith))
place_cases (suc m) (suc n) = elim (place_cases m n) as (λ s. (suc m < suc n) ⊎ ((suc n < suc m) ⊎ (suc m ≡ suc n))) [ inl a ↦ inl (omega arith) | inr b ↦ elim b as (λ s. (suc m < suc n) ⊎ ((suc n < suc m) ⊎ (suc m ≡ suc n))) [ inl c ↦ inr (inl (omega arith)) | inr d ↦ inr (inr (ap suc d)) ] ]

pub holds_one : (p : Prog) (f h g r i : ℕ) (k m : ℤ) → Holds p f h r k i → Holds p f g r m i → k ≡ m
holds_one p f h g r i k m a b = by_place (place_cases h g)
  where
    by_place : (h < g) ⊎ ((g < h) ⊎ (h ≡ g)) → k ≡ m
    by_place (inl lt) = absurd (holds_later p f h g r i k m a b lt)
    by_place (inr (inl gt)) = absurd (holds_later p f g h r i m k b a gt)
    by_place (inr (inr e)) =
        let same = same_instruction _ _ _ a.here (subst (λ v. instruction_at p f v ≡ Some b.x) (sym e) b.here) in
        sym a.number ∙ ap (λ y. y.inst.imm) same ∙ b.number

pub known_one : (p : Prog) (f i : ℕ) (k m : ℤ) → IsKnownWrite p f i k → IsKnownWrite p f i m → k ≡ m
known_one p f i k m w v =
    let same = same_instruction _ _ _ w.here v.here in
    by_forms (subst (λ y. AddsImmediate y k ⊎ AddsRegister p f i y k) same w.form) v.form
  where
    by_forms : AddsImmediate v.x k ⊎ AddsRegister p f i v.x k → AddsImmediate v.x m ⊎ AddsRegister p f i v.x m → k ≡ m
    by_forms (inl a) (inl b) = sym a.number ∙ b.number
    by_forms (inl a) (inr b) = let e = a.ai in let f = b.a in cc
    by_forms (inr a) (inl b) = let e = a.a in let f = b.ai in cc
    by_forms (inr a) (inr b) = holds_one p f a.at b.at v.x.inst.rb i k m a.held b.held

-- a place adds one amount
pub adds_one : (p : Prog) (f i : ℕ) (c d : ℤ) → Adds p f i c → Adds p f i d → c ≡ d
adds_one p f i c d (inl (k, w, e)) (inl (m, v, g)) = e ∙ ap (λ z. pos 0 -ℤ z) (known_one p f i k m w v) ∙ sym g
adds_one p f i c d (inl (k, w, e)) (inr (none, g)) = absurd (none k w)
adds_one p f i c d (inr (none, e)) (inl (k, w, g)) = absurd (none k w)
adds_one p f i c d (inr (none, e)) (inr (never, g)) = e ∙ sym g

-- ---- good frames have no fault

pub good_faultless : (p : Prog) → AreGood p → (kind : FrameKind) (f i : ℕ) → IsFaulty kind p f i → ⊥
good_faultless p good StackWrite f i w = let known = good.known f i w.x w.function w.here w.writes in w.unknown known.0 known.1
good_faultless p good DepthDisagrees f i d = d.apart (good.agreed f i d.one d.other d.first d.second)
good_faultless p good DepthAtExit f i e = e.deep (good.level f i e.depth e.x e.reached e.here e.exit)
good_faultless p good DepthRange f i (n, d, out) = out (good.range f i n d)
