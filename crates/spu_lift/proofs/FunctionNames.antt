-- The first symbol of an extent names its function, and the functions of objects are those of all such symbols.
use Rattle.std.proofs.Common.{◌≡◌, ℕ, zero, suc, ◌+◌, ◌-◌, ◌<◌, ◌≤◌, ◌⊎◌, Bool, true, false, not, ◌&&◌, ◌||◌, cond, List, [], ◌∷◌, ◌++◌, length, Option, Some, None, slice_get, filter, refl, sym, ap, subst, ◌∙◌, inl, inr, arith}
use Rattle.std.specs.List.{find, list_any}
use Rattle.std.specs.Option.{option_map_or, option_or}
use Rattle.std.proofs.lemmas.Bool.{cases_Bool, cases_lt}
use Rattle.std.proofs.lemmas.Option.{none-some, same_Some, slice_get_within}
use Rattle.spu_elf.specs.declared.objects.Section.{Section}
use Rattle.spu_elf.specs.declared.objects.Symbol.{Symbol}
use Rattle.spu_elf.specs.declared.objects.Object.{Object}
use Rattle.spu_lift.specs.declared.functions.FunctionSymbol.{FunctionSymbol}
use Rattle.spu_lift.specs.Tables.{symbol_at, symbols_of}
use Rattle.spu_lift.specs.Extents.{Extent, IsEarlier, IsExtent, IsFunctionSymbol, covering, covers, extent_name, is_global}
use Rattle.spu_lift.specs.FunctionTables.{AreFunctions, AreSorted, AreSymbolsOf, HasFunction, HasSymbol, IsNamed, IsSymbolOf, extent_in, function_symbol, rank_of, symbol_name}
use Rattle.spu_lift.proofs.SymbolOrder.{not_before_within}
use Rattle.spu_lift.proofs.FirstSymbols.{AreFirsts, IsFirstOf}

-- ---- the first element of a part of a list

-- the first that passes both tests is the first of those that pass the one
first_of_both : {X : Type 0} (p q : X → Bool) (xs : List X) (j : ℕ) (x : X) → slice_get xs j ≡ Some x → q x ≡ true → p x ≡ true
    → ((i : ℕ) (y : X) → i < j → slice_get xs i ≡ Some y → q y ≡ true → p y ≡ false) → find p (filter q xs) ≡ Some x
first_of_both p q [] j x there one two before = absurd (none-some x there)
first_of_both p q (z ∷ xs) zero x there one two before =
    let is : z ≡ x = same_Some z x there in
    let these : q z ≡ true = ap q is ∙ one in
    let those : p z ≡ true = ap p is ∙ two in
    rw (these, those) there
first_of_both p q (z ∷ xs) (suc j) x there one two before =
    let rest : find p (filter q xs) ≡ Some x = first_of_both p q xs j x there one two (λ i y less at. before (suc i) y (omega arith) at) in
    elim (cases_Bool (q z)) [
      | inl in_part ↦ let fails : p z ≡ false = before 0 z (omega arith) refl in_part in rw (in_part, fails) rest
      | inr out ↦ rw out rest
    ]

first_is : {X : Type 0} (xs : List X) → find (λ (x : X). true) xs ≡ slice_get xs 0
first_is [] = refl
first_is (x ∷ xs) = refl

first_in : {X : Type 0} (q : X → Bool) (xs : List X) (j : ℕ) (x : X) → slice_get xs j ≡ Some x → q x ≡ true → ((i : ℕ) (y : X) → i < j → slice_get xs i ≡ Some y → q y ≡ true → ⊥) → slice_get (filter q xs) 0 ≡ Some x
first_in {X} q xs j x there one before =
    sym (first_is (filter q xs)) ∙ first_of_both (λ (y : X). true) q xs j x there one refl (λ i y less at is. absurd (before i y less at is))

none_of_both : {X : Type 0} (p q : X → Bool) (xs : List X) → ((i : ℕ) (y : X) → slice_get xs i ≡ Some y → q y ≡ true → p y ≡ false) → (find p (filter q xs) ≡ None) × (list_any p (filter q xs) ≡ false)
none_of_both p q [] none = (refl, refl)
none_of_both p q (z ∷ xs) none =
    let rest = none_of_both p q xs (λ i y at. none (suc i) y at) in
    elim (cases_Bool (q z)) [
      | inl in_part ↦ let fails : p z ≡ false = none 0 z refl in_part in (rw (in_part, fails) rest.0, rw (in_part, fails) rest.1)
      | inr out ↦ (rw out rest.0, rw out rest.1)
    ]

found_any : {X : Type 0} (p : X → Bool) (xs : List X) (x : X) → find p xs ≡ Some x → list_any p xs ≡ true
found_any p [] x is = absurd (none-some x is)
found_any p (z ∷ xs) x is = elim (cases_Bool (p z)) [
  | inl passes ↦ rw passes refl
  | inr fails ↦ let rest : find p xs ≡ Some x = rw fails at is in rw fails (found_any p xs x rest)
]

-- ---- the name of an extent

-- symbol s, the jth, is the first of an extent's symbols: global ones come first
abbrev IsLeastBy : (Symbol → Bool) → List Symbol → ℕ → Symbol → Type 0
IsLeastBy q ss j s = (i : ℕ) (y : Symbol) → slice_get ss i ≡ Some y → q y ≡ true → IsEarlier (rank_of (not y.global) ∷ i ∷ []) (rank_of (not s.global) ∷ j ∷ []) → ⊥

record IsNameOf (q : Symbol → Bool) (ss : List Symbol) (s : Symbol) : Type 0 where
  pub name : option_map_or (λ (y : Symbol). y.name) (option_or (find (λ (y : Symbol). y.global) (filter q ss)) (slice_get (filter q ss) 0)) ([]) ≡ s.name
  pub global : list_any (λ (y : Symbol). y.global) (filter q ss) ≡ s.global

named_so : (q : Symbol → Bool) (ss : List Symbol) (j : ℕ) (s : Symbol) (g : Bool) → s.global ≡ g → slice_get ss j ≡ Some s → q s ≡ true → IsLeastBy q ss j s → IsNameOf q ss s
named_so q ss j s true is there one least =
    let found : find (λ (y : Symbol). y.global) (filter q ss) ≡ Some s = first_of_both (λ (y : Symbol). y.global) q ss j s there one is before in
    record {
      name = ap (λ o. option_map_or (λ (y : Symbol). y.name) (option_or o (slice_get (filter q ss) 0)) ([])) found;
      global = found_any (λ (y : Symbol). y.global) (filter q ss) s found ∙ sym is;
    }
  where
    before : (i : ℕ) (y : Symbol) → i < j → slice_get ss i ≡ Some y → q y ≡ true → y.global ≡ false
    before i y less at in_part = elim (cases_Bool y.global) [
      | inl also ↦
          let ranks : rank_of (not y.global) ≡ rank_of (not s.global) = ap (λ b. rank_of (not b)) (also ∙ sym is) in
          absurd (least i y at in_part (inr (ranks, inl less)))
      | inr other ↦ other
    ]
named_so q ss j s false is there one least =
    let no : find (λ (y : Symbol). y.global) (filter q ss) ≡ None = none.0 in
    let first : slice_get (filter q ss) 0 ≡ Some s = first_in q ss j s there one before in
    record {
      name = ap (λ o. option_map_or (λ (y : Symbol). y.name) (option_or o (slice_get (filter q ss) 0)) ([])) no ∙ ap (λ o. option_map_or (λ (y : Symbol). y.name) o ([])) first;
      global = none.1 ∙ sym is;
    }
  where
    rank : rank_of (not s.global) ≡ 1
    rank = ap (λ b. rank_of (not b)) is

    local : (i : ℕ) (y : Symbol) → slice_get ss i ≡ Some y → q y ≡ true → y.global ≡ false
    local i y at in_part = elim (cases_Bool y.global) [
      | inl also ↦
          let lower : rank_of (not y.global) ≡ 0 = ap (λ b. rank_of (not b)) also in
          absurd (least i y at in_part (inl (omega (arith, lower, rank))))
      | inr other ↦ other
    ]

    none : (find (λ (y : Symbol). y.global) (filter q ss) ≡ None) × (list_any (λ (y : Symbol). y.global) (filter q ss) ≡ false)
    none = none_of_both (λ (y : Symbol). y.global) q ss local

    before : (i : ℕ) (y : Symbol) → i < j → slice_get ss i ≡ Some y → q y ≡ true → ⊥
    before i y less at in_part =
        let ranks : rank_of (not y.global) ≡ rank_of (not s.global) = ap (λ b. rank_of (not b)) (local i y at in_part ∙ sym is) in
        least i y at in_part (inr (ranks, inl less))

-- ---- functions

not_not : (b : Bool) → not (not b) ≡ b
not_not true = refl
not_not false = refl

first_named : (os : List Object) (ss : List FunctionSymbol) (n : ℕ) (f : FunctionSymbol) → AreSymbolsOf os ss → IsFirstOf ss n f → (s : Symbol) (t : Section) → IsSymbolOf os f s t → IsNamed os f
first_named os ss n f symbols first s t is = record {
  name = ap (λ o. option_map_or (λ (y : Symbol). y.name) o ([])) is.function.symbol ∙ sym names.name;
  global = ap not is.local ∙ not_not s.global ∙ sym names.global;
}
  where
    least : IsLeastBy (covers (extent_in f)) (symbols_of os f.object) f.symbol s
    least i y at in_part less =
        let other : IsFunctionSymbol os (extent_in f) i y t = record { symbol = at; covers = in_part; some = is.function.some; section = is.function.section; code = is.function.code } in
        let has = symbols.all (extent_in f) i y t other in
        let ranked : IsEarlier (rank_of (not y.global) ∷ i ∷ []) (rank_of f.local ∷ f.symbol ∷ []) = subst (λ b. IsEarlier (rank_of (not y.global) ∷ i ∷ []) (rank_of b ∷ f.symbol ∷ [])) (sym is.local) less in
        elim (cases_lt has.0 first.b) [
          | inl before ↦ first.first has.0 (function_symbol (extent_in f) i y) before has.1 refl
          | inr behind ↦ not_before_within ss first.b has.0 f (function_symbol (extent_in f) i y) symbols.sorted behind first.there has.1 refl ranked
        ]

    names : IsNameOf (covers (extent_in f)) (symbols_of os f.object) s
    names = named_so (covers (extent_in f)) (symbols_of os f.object) f.symbol s s.global refl is.function.symbol is.function.covers least

pub are_functions : (os : List Object) (ss fs : List FunctionSymbol) → AreSymbolsOf os ss → AreFirsts ss (length ss) fs → AreFunctions os fs
are_functions os ss fs symbols firsts = record {
  rising = firsts.rising;
  few = let few = firsts.few in let most = symbols.few in omega arith;
  each = each;
  named = λ i f at. let has = each i f at in first_named os ss (length ss) f symbols (firsts.kept i f at) has.s has.t has.is;
  all = all;
}
  where
    each : (i : ℕ) (f : FunctionSymbol) → slice_get fs i ≡ Some f → HasSymbol os f
    each i f at = let first = firsts.kept i f at in symbols.each first.b f first.there

    all : (x : Extent) → IsExtent os x → HasFunction fs x
    all x extent =
        let has = symbols.all x extent.0 extent.1 extent.2 extent.3 in
        firsts.all has.0 (function_symbol x extent.0 extent.1) (slice_get_within ss has.0 (function_symbol x extent.0 extent.1) has.1) has.1

-- where all symbols are gone through
pub functions_found : (os : List Object) (ss seen fs : List FunctionSymbol) (n : ℕ) → seen ≡ ss → n ≡ length seen → AreSymbolsOf os ss → (AreSorted seen → AreFirsts seen n fs) → AreFunctions os fs
functions_found os ss seen fs n are all symbols firsts =
    let sorted : AreSorted seen = subst AreSorted (sym are) symbols.sorted in
    let these : AreFirsts ss n fs = subst (λ (xs : List FunctionSymbol). AreFirsts xs n fs) are (firsts sorted) in
    are_functions os ss fs symbols (subst (λ m. AreFirsts ss m fs) (all ∙ ap length are) these)
