-- The functions of well-formed objects: the symbols of functions in order, and the first of each extent.
use Rattle.std.proofs.Common.{◌≡◌, ℕ, zero, suc, ◌+◌, ◌-◌, ◌≤◌, List, [], ◌∷◌, ◌++◌, length, Some, slice_get, refl, subst, inl, inr, arith}
use Rattle.std.specs.Prelude.{All}
use Rattle.std.proofs.lemmas.Bool.{cases_Bool}
use Rattle.spu_word.specs.declared.limits.TheConstants.{MAX_OBJECTS}
use Rattle.spu_word.proofs.Places.{get_some}
use Rattle.spu_elf.specs.declared.objects.Object.{Object}
use Rattle.spu_elf.specs.WellFormed.{IsWellFormed}
use Rattle.spu_lift.specs.declared.functions.FunctionSymbol.{FunctionSymbol}
use Rattle.spu_lift.specs.FunctionTables.{AreFunctions, AreSorted, AreSymbolsOf}
use Rattle.spu_lift.specs.Gathered.{function_symbols}
use Rattle.spu_lift.proofs.SortedSymbols.{in_order}
use Rattle.spu_lift.proofs.GatheredSymbols.{are_symbols}
use Rattle.spu_lift.proofs.FirstSymbols.{AreFirsts, first_kept, first_pushed, is_new_by, no_firsts}
use Rattle.spu_lift.proofs.FunctionNames.{are_functions}

abbrev HasFirsts : List FunctionSymbol → ℕ → Type 0
HasFirsts ss n = (fs : List FunctionSymbol) × AreFirsts ss n fs

firsts_of : (ss : List FunctionSymbol) → AreSorted ss → (n : ℕ) → n ≤ length ss → HasFirsts ss n
firsts_of ss sorted zero within = ([], no_firsts ss)
firsts_of ss sorted (suc n) within = one_more (get_some ss n (omega (arith, within))) (firsts_of ss sorted n (omega (arith, within)))
  where
    next : n + 1 ≡ suc n
    next = omega arith

    one_more : (g : FunctionSymbol) × (slice_get ss n ≡ Some g) → HasFirsts ss n → HasFirsts ss (suc n)
    one_more (g, at) (fs, firsts) = elim (cases_Bool (is_new_by g (slice_get fs (length fs - 1)))) [
      | inl new ↦ (fs ++ g ∷ [], subst (λ m. AreFirsts ss m (fs ++ g ∷ [])) next (first_pushed ss n fs fs g sorted refl new at firsts))
      | inr old ↦ (fs, subst (λ m. AreFirsts ss m fs) next (first_kept ss n fs fs g refl old at firsts))
    ]

pub functions_of : (os : List Object) → length os ≤ MAX_OBJECTS → All IsWellFormed os → (fs : List FunctionSymbol) × AreFunctions os fs
functions_of os few formed =
    let ss = in_order (function_symbols os) in
    let symbols : AreSymbolsOf os ss.0 = are_symbols os (function_symbols os) ss.0 few formed refl ss.1.moved ss.1.sorted in
    let fs = firsts_of ss.0 ss.1.sorted (length ss.0) (omega arith) in
    (fs.0, are_functions os ss.0 fs.0 symbols fs.1)
