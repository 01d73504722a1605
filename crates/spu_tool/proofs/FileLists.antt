-- Files that are read one after another.
use Rattle.std.proofs.Common.{◌≡◌, ℕ, suc, ◌+◌, ◌<◌, List, [], ◌∷◌, ◌++◌, Option, map, take, length, get_or, refl, sym, subst, ap}
use Rattle.std.proofs.lemmas.List.{map_more}
use Rattle.spu_io.specs.Outside.{Names, ReadOf}
use Rattle.spu_tool.specs.Outcomes.{AreRead}

pushed : (held : Option Names) (names files : List (List ℕ)) (name bytes : List ℕ) → AreRead held names files → ReadOf held name bytes → AreRead held (names ++ name ∷ []) (files ++ bytes ∷ [])
pushed held [] [] name bytes all one = (one, tt)
pushed held (n ∷ names) (b ∷ files) name bytes all one = (all.0, pushed held names files name bytes all.1 one)
pushed held [] (b ∷ files) name bytes all one = absurd all
pushed held (n ∷ names) [] name bytes all one = absurd all

-- one file more
pub read_more : {X : Type 0} (held : Option Names) (f : X → List ℕ) (names : List X) (i : ℕ) (d : X) (files : List (List ℕ)) (bytes : List ℕ)
    → i < length names → AreRead held (map f (take i names)) files → ReadOf held (f (get_or names i d)) bytes → AreRead held (map f (take (i + 1) names)) (files ++ bytes ∷ [])
read_more held f names i d files bytes lt all one =
    subst (λ ns. AreRead held ns (files ++ bytes ∷ [])) (sym (map_more f names i d lt)) (pushed held (map f (take i names)) files (f (get_or names i d)) bytes all one)

-- as many are read as there are names
pub as_many : (held : Option Names) (names files : List (List ℕ)) → AreRead held names files → length names ≡ length files
as_many held [] [] all = refl
as_many held (n ∷ names) (b ∷ files) all = ap suc (as_many held names files all.1)
as_many held [] (b ∷ files) all = absurd all
as_many held (n ∷ names) [] all = absurd all
