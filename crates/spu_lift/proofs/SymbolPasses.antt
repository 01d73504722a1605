-- The passes over symbols: what is shown at them, and the function of the entry.
use Rattle.std.proofs.Common.{◌≡◌, ℕ, ◌+◌, ◌<◌, ◌≤◌, List, [], ◌∷◌, length, get_or, Some, slice_get, refl, sym, ap, subst, ◌∙◌}
use Rattle.std.proofs.lemmas.Option.{same_Some, slice_get_read, slice_get_within}
use Rattle.spu_elf.specs.declared.objects.Symbol.{Symbol}
use Rattle.spu_elf.specs.declared.objects.Object.{Object}
use Rattle.spu_lift.specs.declared.fault.LiftFault.{LiftFault}
use Rattle.spu_lift.specs.declared.fault.LiftFault.TheVariants as faults
use Rattle.spu_lift.specs.declared.symbol_checks.SymbolCheck.{SymbolCheck}
use Rattle.spu_lift.specs.Tables.{symbol_at}
use Rattle.spu_lift.specs.Checks.{IsAnswer, IsBadSymbol, IsNowhere, IsNowhereBelow, IsTold, ShowsSymbol, kind_of_check, within}
use Rattle.spu_lift.proofs.ExtentFacts.{object_at, object_of_symbol}
use Rattle.spu_lift.proofs.FirstPlaces.{Begins, answer_climbs, here_first, nowhere_past, one_more, told_first}

-- ---- symbols by number

pub symbol_there : (os : List Object) (n j : ℕ) (o : Object) (s : Symbol) → slice_get os n ≡ Some o → j < length o.symbols → s ≡ get_or o.symbols j s → symbol_at os n j ≡ Some s
symbol_there os n j o s there less is = ap (λ ss. slice_get ss j) (object_at os n o there).symbols ∙ slice_get_read o.symbols (length o.symbols) j s refl less is

-- ---- what is shown at a symbol

-- a place of a shown symbol has its numbers
moved : (P : ℕ → ℕ → Symbol → Type 0) (n m i j : ℕ) (s t : Symbol) → n ≡ m → i ≡ j → s ≡ t → P m j t → P n i s
moved P n m i j s t a b c h = subst (λ (x : Symbol). P n i x) (sym c) (subst (λ (k : ℕ). P n k t) (sym b) (subst (λ (k : ℕ). P k j t) (sym a) h))

none_here : (check : SymbolCheck) (os : List Object) (n j : ℕ) (s : Symbol) → symbol_at os n j ≡ Some s → (IsBadSymbol check os n j s → ⊥) → IsNowhere (within j (within n (ShowsSymbol check os)))
none_here check os n j s there good rest fault shown =
    let at : n ∷ j ∷ rest ≡ shown.n ∷ shown.j ∷ [] = shown.at in
    let object : n ≡ shown.n = cc in
    let number : j ≡ shown.j = cc in
    let other : symbol_at os n j ≡ Some shown.symbol = ap (λ k. symbol_at os k j) object ∙ ap (symbol_at os shown.n) number ∙ shown.there in
    let same : s ≡ shown.symbol = same_Some s shown.symbol (sym there ∙ other) in
    good (moved (IsBadSymbol check os) n shown.n j shown.j s shown.symbol object number same (shown.definition, shown.bad))

pub symbol_passed : (check : SymbolCheck) (os : List Object) (n j : ℕ) (o : Object) (s : Symbol) → slice_get os n ≡ Some o → j < length o.symbols → s ≡ get_or o.symbols j s
    → (IsBadSymbol check os n j s → ⊥) → IsNowhereBelow (within n (ShowsSymbol check os)) j → IsNowhereBelow (within n (ShowsSymbol check os)) (j + 1)
symbol_passed check os n j o s there less is good below = one_more (within n (ShowsSymbol check os)) j below (none_here check os n j s (symbol_there os n j o s there less is) good)

pub symbol_found : (check : SymbolCheck) (os : List Object) (n j : ℕ) (o : Object) (s : Symbol) (told : LiftFault) → slice_get os n ≡ Some o → j < length o.symbols → s ≡ get_or o.symbols j s
    → IsBadSymbol check os n j s → IsTold told (faults.Symbol (kind_of_check check) s.name) → IsNowhereBelow (within n (ShowsSymbol check os)) j → IsAnswer (within n (ShowsSymbol check os)) told
symbol_found check os n j o s told there less is bad tells below =
    let here : ShowsSymbol check os (n ∷ j ∷ []) (faults.Symbol (kind_of_check check) s.name) =
    record { n = n; j = j; symbol = s; there = symbol_there os n j o s there less is; definition = bad.0; bad = bad.1; at = refl; told = refl } in
    answer_climbs (within n (ShowsSymbol check os)) j told below (told_first (within j (within n (ShowsSymbol check os))) told (faults.Symbol (kind_of_check check) s.name) tells (here_first (within j (within n (ShowsSymbol check os))) (faults.Symbol (kind_of_check check) s.name) here))

pub symbols_passed : (check : SymbolCheck) (os : List Object) (n j : ℕ) (o : Object) → slice_get os n ≡ Some o → length o.symbols ≤ j → IsNowhereBelow (within n (ShowsSymbol check os)) j → IsNowhere (within n (ShowsSymbol check os))
symbols_passed check os n j o there all below = nowhere_past (within n (ShowsSymbol check os)) (length o.symbols) j all begins below
  where
    begins : (rest : List ℕ) (fault : LiftFault) → ShowsSymbol check os (n ∷ rest) fault → Begins (length o.symbols) rest
    begins rest fault shown =
        let at : n ∷ rest ≡ shown.n ∷ shown.j ∷ [] = shown.at in
        let object : n ≡ shown.n = cc in
        let these : rest ≡ shown.j ∷ [] = cc in
        let here : slice_get o.symbols shown.j ≡ Some shown.symbol = ap (λ ss. slice_get ss shown.j) (sym (object_at os n o there).symbols) ∙ ap (λ k. symbol_at os k shown.j) object ∙ shown.there in
        subst (Begins (length o.symbols)) (sym these) (slice_get_within o.symbols shown.j shown.symbol here)

-- ---- objects

pub objects_passed : (check : SymbolCheck) (os : List Object) (i : ℕ) → length os ≤ i → IsNowhereBelow (ShowsSymbol check os) i → IsNowhere (ShowsSymbol check os)
objects_passed check os i all below = nowhere_past (ShowsSymbol check os) (length os) i all begins below
  where
    begins : (place : List ℕ) (fault : LiftFault) → ShowsSymbol check os place fault → Begins (length os) place
    begins place fault shown = subst (Begins (length os)) (sym shown.at) (object_of_symbol os shown.n shown.j shown.symbol shown.there).1.within
