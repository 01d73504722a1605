-- What a hop needs of a program and of the symbolic state, and what one step of the machine then keeps.
use Rattle.std.proofs.Common.{◌≡◌, ℕ, Some, ap, ◌∙◌, subst, inl, inr, arith}
use Rattle.std.proofs.lemmas.Option.{slice_get_cases}
use Rattle.spu_isa.specs.declared.operation.Kind.TheVariants as kind
use Rattle.spu_lift.specs.declared.program.Label.{Label}
use Rattle.spu_lift.specs.declared.program.Label.TheVariants.{Fun, Place, Link}
use Rattle.spu_lift.specs.declared.program.Operand.TheVariants as operand
use Rattle.spu_lift.specs.declared.program.SymInst.{SymInst}
use Rattle.spu_lift.specs.declared.program.Prog.{Prog}
use Rattle.spu_lift.specs.Places.{instruction_at, place_in, kind_of, IsPlace}
use Rattle.spu_lift.specs.WellFormed.{IsCallee, IsOperand, IsTakenTarget, IsWellFormed}
use Rattle.spu_ls.specs.Machine.{State}
use Rattle.spu_ideal.specs.State.{Sym, IsOutside}
use Rattle.spu_layout.specs.Layouts.{Layout, IsShared}
use Rattle.spu_image.specs.Matching.{Matches}

-- a label of a place that exists
abbrev pub IsPlaced : Prog → Label → Type 0
IsPlaced p (Fun f) = IsPlace p f 0
IsPlaced p (Place f i) = IsPlace p f i
IsPlaced p (Link f i) = ⊥

-- what a well-formed program has: calls leave their link in register 0, and labels are of places
pub record IsLinkable (p : Prog) : Type 0 where
  pub calls : (f i : ℕ) (x : SymInst) → instruction_at p f i ≡ Some x → kind_of x ≡ kind.Call → x.inst.rt ≡ 0
  pub pointers : (f i : ℕ) (x : SymInst) → instruction_at p f i ≡ Some x → kind_of x ≡ kind.PointerCall → x.inst.rt ≡ 0
  pub labels : (f i : ℕ) (x : SymInst) (m : Label) → instruction_at p f i ≡ Some x → x.operand ≡ operand.Address m → IsPlaced p m

abbrev pub Inside : Sym → Type 0
Inside s = IsOutside s.ended → ⊥

-- where the symbolic machine is at s, in function f, and the machine came from m to n: they match, and of the store only what
-- both speak of has changed
pub record Stepped (l : Layout) (f : ℕ) (m : State) (s : Sym) (n : State) : Type 0 where
  pub function : s.f ≡ f
  pub matched : Matches l s n
  pub kept : (a : ℕ) → (IsShared l a → ⊥) → n.store a ≡ m.store a
  pub image : n.image ≡ m.image

-- ---- of a well-formed program

pub entered : (p : Prog) → IsWellFormed p → (f : ℕ) → IsCallee p f → IsPlace p f 0
entered p well f callee = elim ((slice_get_cases p.functions f).1) [
  | inr past ↦ absurd (let le = past.0 in let lt = callee.1 in omega arith)
  | inl found ↦ (
      let is = well.each f found.0 callee.0 found.2 in
      elim ((slice_get_cases found.0.code 0).1) [
        | inr past ↦ absurd (let le = past.0 in let some = is.some in omega arith)
        | inl first ↦ (first.0, ap (λ o. place_in o 0) found.2 ∙ first.2)
      ])
]

pub label_placed : (p : Prog) → IsWellFormed p → (m : Label) → IsTakenTarget p m → IsPlaced p m
label_placed p well (Fun f) taken = entered p well f (well.taken f taken)
label_placed p well (Place f i) taken = (well.places f i taken).1
label_placed p well (Link f i) taken = absurd taken

pub linkable_of : (p : Prog) → IsWellFormed p → IsLinkable p
linkable_of p well = record {
  calls = λ f i x here k. (well.instructions f i x here).call k;
  pointers = λ f i x here k. (well.instructions f i x here).pointer_call k;
  labels = λ f i x m here is. label_placed p well m (subst (IsOperand p f x) is (well.instructions f i x here).stands).1;
}
