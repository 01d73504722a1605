-- Whether a number is in a list, as the library's test says it.
use Rattle.std.proofs.Common.{◌≡◌, ℕ, Bool, List, eqb}
use Rattle.std.specs.Bool.{IsTrue}
use Rattle.std.specs.List.{IsAnyAnswer, Contains}
use Rattle.std.proofs.lemmas.Bool.Decides.{Decides-eqb}
use Rattle.std.proofs.lemmas.List.Elements.{contains_decides, Decides-contains}

pub is_member : (xs : List ℕ) (x : ℕ) (r : Bool) → IsAnyAnswer (λ y t. eqb y x ≡ t) xs r → (IsTrue r → Contains xs x) × (Contains xs x → IsTrue r)
is_member xs x r h = Decides-contains xs x r (contains_decides eqb Decides-eqb xs x r h)
