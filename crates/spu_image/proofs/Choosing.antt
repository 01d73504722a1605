-- Steps that choose, on the symbolic machine and on the machine; Q is what is promised of both afterwards.
use Rattle.std.proofs.Common.{◌≡◌, refl, subst, sym, Bool, true, false, cond}
use Rattle.spu_ls.specs.Machine.{State}
use Rattle.spu_ideal.specs.State.{Sym, IsOutside}
use Rattle.spu_image.proofs.Promised.{Inside}

-- both choose by one test
pub choose : (Q : Sym → State → Type 0) (b : Bool) (t u : Sym) (v w : State) → (b ≡ true → Inside t → Q t v) → (b ≡ false → Inside u → Q u w)
    → Inside (cond b t u) → Q (cond b t u) (cond b v w)
choose Q true t u v w does fails inside = does refl inside
choose Q false t u v w does fails inside = fails refl inside

-- by tests that are equal
pub choose_by : (Q : Sym → State → Type 0) (b c : Bool) (t u : Sym) (v w : State) → c ≡ b → (b ≡ true → Inside t → Q t v) → (b ≡ false → Inside u → Q u w)
    → Inside (cond b t u) → Q (cond b t u) (cond c v w)
choose_by Q b c t u v w e does fails inside = subst (λ d. Q (cond b t u) (cond d v w)) (sym e) (choose Q b t u v w does fails inside)

-- the symbolic machine alone chooses
pub guard : (Q : Sym → State → Type 0) (b : Bool) (t u : Sym) (n : State) → (b ≡ true → Inside t → Q t n) → (b ≡ false → Inside u → Q u n)
    → Inside (cond b t u) → Q (cond b t u) n
guard Q true t u n does fails inside = does refl inside
guard Q false t u n does fails inside = fails refl inside

-- where it would be outside otherwise
pub unless_outside : (Q : Sym → State → Type 0) (b : Bool) (t u : Sym) (n : State) → IsOutside u.ended → (b ≡ true → Inside t → Q t n)
    → Inside (cond b t u) → Q (cond b t u) n
unless_outside Q true t u n out does inside = does refl inside
unless_outside Q false t u n out does inside = absurd (inside out)
