-- Files by their numbers.
use Rattle.std.proofs.Common.{◌≡◌, ℕ, zero, suc, List, [], ◌∷◌, Some, None, refl, ap}
use Rattle.std.specs.Prelude.{slice_get, slice_index_or}
use Rattle.std.specs.Borrow.{Bor}
use Rattle.spu_tool.specs.Arguments.{texts_of}

pub name_there : (names : List (Bor (List ℕ))) (k : ℕ) (name : Bor (List ℕ)) → slice_get names k ≡ Some name → slice_index_or (texts_of names) k [] ≡ name.now
name_there [] k name e = absurd (cc)
name_there (n ∷ names) zero name e = (let same : n ≡ name = cc in ap (λ (x : Bor (List ℕ)). x.now) same)
name_there (n ∷ names) (suc k) name e = name_there names k name e

pub name_missing : (names : List (Bor (List ℕ))) (k : ℕ) → slice_get names k ≡ None → slice_index_or (texts_of names) k [] ≡ []
name_missing [] k e = refl
name_missing (n ∷ names) zero e = absurd (cc)
name_missing (n ∷ names) (suc k) e = name_missing names k e
