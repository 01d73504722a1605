-- Walks grow by successors; what adds to the depth is an addition to register 1.
use Rattle.std.proofs.Common.{◌≡◌, ℕ, ◌⊎◌, inl, inr, [], ◌∷◌, Option, Some, refl, sym, ap, ◌∙◌, ℤ, pos}
use Rattle.std.specs.Prelude.{◌+ℤ◌}
use Rattle.spu_isa.specs.declared.operation.Op.TheVariants as op
use Rattle.spu_isa.specs.declared.operation.Kind.TheVariants as kind
use Rattle.spu_isa.specs.Table.{row_of}
use Rattle.spu_lift.specs.declared.program.SymInst.{SymInst}
use Rattle.spu_lift.specs.declared.program.Prog.{Prog}
use Rattle.spu_lift.specs.Places.{instruction_at, kind_of, IsPlace}
use Rattle.spu_frame.specs.Walks.{IsKnownWrite, Adds, Follows, IsWalk, IsDepth, Reaches}

pub same_instruction : (o : Option SymInst) (x y : SymInst) → o ≡ Some x → o ≡ Some y → x ≡ y
same_instruction o x y e f = cc

-- a known write is an addition
pub known_kind : (p : Prog) (f i : ℕ) (k : ℤ) (x : SymInst) → IsKnownWrite p f i k → instruction_at p f i ≡ Some x → (x.inst.op ≡ op.Ai) ⊎ (x.inst.op ≡ op.A)
known_kind p f i k x w e =
    let same : w.x ≡ x = same_instruction _ _ _ w.here e in
    elim w.form as (λ s. (x.inst.op ≡ op.Ai) ⊎ (x.inst.op ≡ op.A)) [
      | inl a ↦ inl (ap (λ y. y.inst.op) (sym same) ∙ a.ai)
      | inr a ↦ inr (ap (λ y. y.inst.op) (sym same) ∙ a.a)
    ]

pub reaches_next : (p : Prog) (f i j : ℕ) (n c : ℤ) → Reaches p f i n → Follows p f i j → Adds p f i c → IsPlace p f j → Reaches p f j (n +ℤ c)
unfolding IsWalk IsDepth
reaches_next p f i j n c r follows adds here = record { here = here; left = i ∷ r.left; walk = (follows, r.walk); depth = (n, r.depth, c, adds, refl) }

pub reaches_start : (p : Prog) (f : ℕ) → IsPlace p f 0 → Reaches p f 0 (pos 0)
unfolding IsWalk IsDepth
reaches_start p f here = record { here = here; left = []; walk = refl; depth = refl }

-- what is no addition adds nothing to the depth
pub adds_none : (p : Prog) (f i : ℕ) (x : SymInst) → instruction_at p f i ≡ Some x → (kind_of x ≡ kind.Compute → ⊥) → Adds p f i (pos 0)
adds_none p f i x here ne = inr ((λ k w. none (known_kind p f i k x w here)), refl)
  where
    none : (x.inst.op ≡ op.Ai) ⊎ (x.inst.op ≡ op.A) → ⊥
    none (inl e) = ne (ap (λ o. (row_of o).kind) e)
    none (inr e) = ne (ap (λ o. (row_of o).kind) e)

-- nor does what writes another register
pub adds_other : (p : Prog) (f i : ℕ) (x : SymInst) → instruction_at p f i ≡ Some x → (x.inst.rt ≡ 1 → ⊥) → Adds p f i (pos 0)
adds_other p f i x here ne = inr ((λ k w. ne (to k w)), refl)
  where
    to : (k : ℤ) → IsKnownWrite p f i k → x.inst.rt ≡ 1
    to k w =
        let same : w.x ≡ x = same_instruction _ _ _ w.here here in
        elim w.form as (λ s. x.inst.rt ≡ 1) [
          | inl a ↦ ap (λ y. y.inst.rt) (sym same) ∙ a.to
          | inr a ↦ ap (λ y. y.inst.rt) (sym same) ∙ a.to
        ]
