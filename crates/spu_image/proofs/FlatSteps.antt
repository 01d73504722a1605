-- In a flat layout nothing lies between places, and a hop is one step.
use Rattle.std.proofs.Common.{◌≡◌, ℕ, zero, suc, ◌&&◌, cond, false, refl, ap, arith}
use Rattle.std.specs.Prelude.{is_none}
use Rattle.std.proofs.lemmas.Bool.Decides.{nat_tests}
use Rattle.spu_ls.specs.declared.ending.TheConstants.{MAX_HOP_STEPS}
use Rattle.spu_ls.specs.Machine.{State, step}
use Rattle.spu_ls.specs.Hops.{settles, hop}
use Rattle.spu_layout.specs.Layouts.{Layout, IsFlat, is_between}

nowhere_between : (l : Layout) → IsFlat l → (pc : ℕ) → is_between l pc ≡ false
nowhere_between l flat pc = let h = flat.passage in grind (arith, nat_tests)

settled : (l : Layout) → IsFlat l → (n : ℕ) (m : State) → settles (is_between l) n m ≡ m
unfolding settles
settled l flat zero m = refl
settled l flat (suc k) m = ap (λ b. cond (b && is_none m.ended) (settles (is_between l) k (step m)) m) (nowhere_between l flat m.pc)

pub flat_hop : (l : Layout) → IsFlat l → (m : State) → hop (is_between l) m ≡ step m
unfolding hop
flat_hop l flat m = settled l flat MAX_HOP_STEPS (step m)
