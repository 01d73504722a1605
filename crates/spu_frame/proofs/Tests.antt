-- What tests tell.
use Rattle.std.proofs.Common.{◌≡◌, Bool, true, false}
use Rattle.std.specs.Prelude.{IsTrue, ◌↔◌}

pub told : (b : Bool) (P : Type 0) → b ≡ true → (IsTrue b ↔ P) → P
told true P e h = h.0 e
told false P e h = absurd (cc)

pub denied : (b : Bool) (P : Type 0) → b ≡ false → (IsTrue b ↔ P) → P → ⊥
denied true P e h q = absurd (cc)
denied false P e h q = let yes : false ≡ true = h.1 q in cc
