-- The symbols that are gathered from objects are all symbols of functions.
use Rattle.std.proofs.Common.{◌≡◌, ℕ, zero, suc, ◌+◌, ◌*◌, ◌<◌, ◌≤◌, ◌⊎◌, Bool, true, false, not, ◌&&◌, ◌==◌, cond, nat_lt, List, [], ◌∷◌, ◌++◌, length, get_or, take, All, Option, Some, None, slice_get, refl, sym, ap, subst, ◌∙◌, inl, inr, arith, append-nil, append_assoc}
use Rattle.std.specs.List.{Contains, cons_option, enumerate_from, filter_map, flat_map}
use Rattle.std.specs.List.Sorted.{IsPermutation}
use Rattle.std.specs.Option.{option_map, option_map_or, option_to_list}
use Rattle.std.proofs.lemmas.Bool.{cases_Bool, cases_lt}
use Rattle.std.proofs.lemmas.Bool.Decides.{nat_tests}
use Rattle.std.proofs.lemmas.List.Sorted.{Contains-permutation, IsPermutation-sym, length_permutation}
use Rattle.std.proofs.lemmas.List.Elements.{filter_map-append}
use Rattle.std.proofs.lemmas.Grind.{flat_map-append}
use Rattle.std.proofs.lemmas.Option.{cond_some, get_or_from_slice_get, none-some, same_Some, slice_get-get_or, slice_get_within}
use Rattle.spu_word.specs.declared.limits.TheConstants.{MAX_OBJECTS, MAX_SYMBOLS}
use Rattle.spu_elf.specs.WellFormed.{IsWellFormed}
use Rattle.spu_elf.specs.declared.objects.SecKind.{SecKind}
use Rattle.spu_elf.specs.declared.objects.SecKind.TheVariants as kinds
use Rattle.spu_elf.specs.declared.objects.Section.{Section}
use Rattle.spu_elf.specs.declared.objects.SymPlace.{SymPlace}
use Rattle.spu_elf.specs.declared.objects.SymPlace.TheVariants as places
use Rattle.spu_elf.specs.declared.objects.Symbol.{Symbol}
use Rattle.spu_elf.specs.declared.objects.Object.{Object}
use Rattle.spu_lift.specs.declared.functions.FunctionSymbol.{FunctionSymbol}
use Rattle.spu_lift.specs.Tables.{is_code, section_at, sections_of, symbol_at, symbols_of}
use Rattle.spu_lift.specs.Extents.{Extent, IsFunctionSymbol, covers, is_function, is_inside}
use Rattle.spu_lift.specs.Checks.{function_section, function_section_by}
use Rattle.spu_lift.specs.FunctionTables.{AreSorted, AreSymbolsOf, HasSymbol, IsSymbolOf, extent_in, function_symbol}
use Rattle.spu_lift.specs.Gathered.{function_symbols, symbol_in, symbols_in}
use Rattle.spu_lift.proofs.DefinedLemmas.{enumerate_next}
use Rattle.spu_lift.proofs.ExtentFacts.{covered, covering_so, in_code, object_at, object_of_symbol, section_of_code}
use Rattle.spu_lift.proofs.Gathering.{few_flat, few_mapped, have_flat, have_mapped, have_numbered, in_flat, in_mapped, in_numbered}

-- ---- one symbol

symbol_by : ℕ → ℕ → Symbol → ℕ → FunctionSymbol
symbol_by n j s k = record { object = n; section = k; offset = s.value; size = s.size; local = not s.global; symbol = j }

mapped_some : {X Y : Type 0} (f : X → Y) (o : Option X) (y : Y) → option_map f o ≡ Some y → (x : X) × (o ≡ Some x) × (f x ≡ y)
mapped_some f None y is = absurd (none-some y is)
mapped_some f (Some x) y is = (x, refl, same_Some (f x) y is)

gathered_is : (os : List Object) (n : ℕ) (o : Object) (j : ℕ) (s : Symbol) (f : FunctionSymbol) → slice_get os n ≡ Some o → slice_get o.symbols j ≡ Some s → symbol_in n o.sections j s ≡ Some f → HasSymbol os f
unfolding symbol_by
gathered_is os n o j s f object symbol is =
    let found = mapped_some (symbol_by n j s) (function_section o.sections s) f is in
    let k : ℕ = found.0 in
    let in_section = in_code o.sections s s.place found.0 found.1 in
    let within = object_at os n o object in
    let has : HasSymbol os (symbol_by n j s found.0) = record {
      s = s;
      t = in_section.t;
      is = record {
        function = record {
          symbol = ap (λ ss. slice_get ss j) within.symbols ∙ symbol;
          covers = covering_so (extent_in (symbol_by n j s found.0)) s (record { function = in_section.function; place = in_section.inside; value = refl; size = refl });
          some = in_section.some;
          section = ap (λ ts. slice_get ts found.0) within.sections ∙ in_section.there;
          code = in_section.code;
        };
        local = refl;
      };
    } in
    subst (HasSymbol os) found.2 has

gathered_all : (ts : List Section) (x : Extent) (j : ℕ) (s : Symbol) (t : Section) → covers x s ≡ true → 1 ≤ x.size → slice_get ts x.section ≡ Some t → t.kind ≡ kinds.Code → symbol_in x.object ts j s ≡ Some (function_symbol x j s)
unfolding symbol_by
gathered_all ts x j s t covered_by some there code =
    let says = covered x s covered_by in
    let value = says.value in
    let size = says.size in
    let section : function_section ts s ≡ Some x.section = section_of_code ts s x.section t says.place says.function (omega arith) there code in
    let put : ℕ → ℕ → FunctionSymbol = λ v w. record { object = x.object; section = x.section; offset = v; size = w; local = not s.global; symbol = j } in
    ap (option_map (symbol_by x.object j s)) section ∙ ap (λ v. Some (put v s.size)) value ∙ ap (λ w. Some (put x.offset w)) size

-- ---- all symbols

found_is : (os : List Object) (i : ℕ) (f : FunctionSymbol) → slice_get (function_symbols os) i ≡ Some f → HasSymbol os f
found_is os i f at =
    let h : ℕ × Object → List FunctionSymbol = λ (p : ℕ × Object). symbols_in p.0 p.1 in
    let part = in_flat h (enumerate_from 0 os) i f at in
    let p : ℕ × Object = part.1 in
    let object = in_numbered 0 os part.0 part.1 part.3 in
    let g : ℕ × Symbol → Option FunctionSymbol = λ (q : ℕ × Symbol). symbol_in part.1.0 part.1.1.sections q.0 q.1 in
    let one = in_mapped g (enumerate_from 0 part.1.1.symbols) part.2 f part.4 in
    let symbol = in_numbered 0 part.1.1.symbols one.0 one.1 one.2 in
    let n : part.1.0 ≡ part.0 = let e = object.0 in omega (arith, e) in
    let j : one.1.0 ≡ one.0 = let e = symbol.0 in omega (arith, e) in
    gathered_is os part.1.0 part.1.1 one.1.0 one.1.1 f (ap (slice_get os) n ∙ object.1) (ap (slice_get part.1.1.symbols) j ∙ symbol.1) one.3

all_found : (os : List Object) (x : Extent) (j : ℕ) (s : Symbol) (t : Section) → IsFunctionSymbol os x j s t → (i : ℕ) × (slice_get (function_symbols os) i ≡ Some (function_symbol x j s))
all_found os x j s t is =
    let object = object_of_symbol os x.object j s is.symbol in
    let there : slice_get object.0.sections x.section ≡ Some t = ap (λ ts. slice_get ts x.section) (sym object.1.sections) ∙ is.section in
    let g : ℕ × Symbol → Option FunctionSymbol = λ (q : ℕ × Symbol). symbol_in x.object object.0.sections q.0 q.1 in
    let h : ℕ × Object → List FunctionSymbol = λ (p : ℕ × Object). symbols_in p.0 p.1 in
    let one = have_mapped g (enumerate_from 0 object.0.symbols) j (j, s) (function_symbol x j s) (numbered object.0.symbols j s object.2) (gathered_all object.0.sections x j s t is.covers is.some there is.code) in
    have_flat h (enumerate_from 0 os) x.object (x.object, object.0) one.0 (function_symbol x j s) (numbered os x.object object.0 object.1.there) one.1
  where
    numbered : {X : Type 0} (xs : List X) (k : ℕ) (y : X) → slice_get xs k ≡ Some y → slice_get (enumerate_from 0 xs) k ≡ Some (k, y)
    numbered xs k y there = let e : 0 + k ≡ k = omega arith in have_numbered 0 xs k y there ∙ ap (λ m. Some (m, y)) e

few_found : (os : List Object) → length os ≤ MAX_OBJECTS → All IsWellFormed os → length (function_symbols os) ≤ MAX_OBJECTS * MAX_SYMBOLS
few_found os few formed =
    let h : ℕ × Object → List FunctionSymbol = λ (p : ℕ × Object). symbols_in p.0 p.1 in
    let most = few_flat h MAX_SYMBOLS (enumerate_from 0 os) each in
    let count : length (enumerate_from 0 os) ≡ length os = count_all 0 os in
    omega arith
  where
    count_all : {X : Type 0} (n : ℕ) (xs : List X) → length (enumerate_from n xs) ≡ length xs
    count_all n [] = refl
    count_all n (x ∷ xs) = ap suc (count_all (n + 1) xs)

    each : (k : ℕ) (p : ℕ × Object) → slice_get (enumerate_from 0 os) k ≡ Some p → length (symbols_in p.0 p.1) ≤ MAX_SYMBOLS
    each k p at =
        let object = in_numbered 0 os k p at in
        let within : k < length os = slice_get_within os k p.1 object.1 in
        let same : get_or os k p.1 ≡ p.1 = get_or_from_slice_get os k p.1 p.1 object.1 in
        let small : length p.1.symbols ≤ MAX_SYMBOLS = subst (λ (o : Object). length o.symbols ≤ MAX_SYMBOLS) same ((formed k p.1 within).few_symbols) in
        let g : ℕ × Symbol → Option FunctionSymbol = λ (q : ℕ × Symbol). symbol_in p.0 p.1.sections q.0 q.1 in
        let some = few_mapped g (enumerate_from 0 p.1.symbols) in
        let count : length (enumerate_from 0 p.1.symbols) ≡ length p.1.symbols = count_all 0 p.1.symbols in
        omega arith

-- ---- in order

contains : {X : Type 0} (xs : List X) (i : ℕ) (x : X) → slice_get xs i ≡ Some x → Contains xs x
contains xs i x at = (i, slice_get_within xs i x at, get_or_from_slice_get xs i x x at)

contained : {X : Type 0} (xs : List X) (x : X) → Contains xs x → (i : ℕ) × (slice_get xs i ≡ Some x)
contained xs x has = (has.0, slice_get-get_or xs has.0 x has.1 ∙ ap Some has.2)

pub are_symbols : (os : List Object) (found fs : List FunctionSymbol) → length os ≤ MAX_OBJECTS → All IsWellFormed os → found ≡ function_symbols os → IsPermutation found fs → AreSorted fs → AreSymbolsOf os fs
are_symbols os found fs few formed is moved sorted = record {
  sorted = sorted;
  few =
      let size : length fs ≡ length found = length_permutation found fs moved in
      let count : length found ≡ length (function_symbols os) = ap length is in
      let most = few_found os few formed in
      omega arith;
  each = λ i f at.
      let was = contained found f (Contains-permutation fs found f (IsPermutation-sym found fs moved) (contains fs i f at)) in
      found_is os was.0 f (ap (λ xs. slice_get xs was.0) (sym is) ∙ was.1);
  all = λ x j s t symbol.
      let was = all_found os x j s t symbol in
      let has = contains found was.0 (function_symbol x j s) (ap (λ xs. slice_get xs was.0) is ∙ was.1) in
      contained fs (function_symbol x j s) (Contains-permutation found fs (function_symbol x j s) moved has);
}

-- ---- one more symbol, and one more object

pub symbol_gathered : (n : ℕ) (o : Object) (i : ℕ) (s : Symbol) → i < length o.symbols → s ≡ get_or o.symbols i s
    → filter_map (λ (q : ℕ × Symbol). symbol_in n o.sections q.0 q.1) (enumerate_from 0 (take (i + 1) o.symbols)) ≡ filter_map (λ (q : ℕ × Symbol). symbol_in n o.sections q.0 q.1) (enumerate_from 0 (take i o.symbols)) ++ option_to_list (symbol_in n o.sections i s)
symbol_gathered n o i s within is =
    let g : ℕ × Symbol → Option FunctionSymbol = λ (q : ℕ × Symbol). symbol_in n o.sections q.0 q.1 in
    ap (filter_map g) (enumerate_next o.symbols i s within is) ∙ filter_map-append g (enumerate_from 0 (take i o.symbols)) ((i, s) ∷ [])
    ∙ ap (λ fs. filter_map g (enumerate_from 0 (take i o.symbols)) ++ fs) (one (symbol_in n o.sections i s))
  where
    one : (f : Option FunctionSymbol) → cons_option f ([]) ≡ option_to_list f
    one None = refl
    one (Some f) = refl

pub object_gathered : (os : List Object) (i : ℕ) (o : Object) → i < length os → o ≡ get_or os i o → function_symbols (take (i + 1) os) ≡ function_symbols (take i os) ++ symbols_in i o
object_gathered os i o within is =
    let h : ℕ × Object → List FunctionSymbol = λ (p : ℕ × Object). symbols_in p.0 p.1 in
    ap (flat_map h) (enumerate_next os i o within is) ∙ flat_map-append h (enumerate_from 0 (take i os)) ((i, o) ∷ []) ∙ ap (λ fs. function_symbols (take i os) ++ fs) (append-nil (symbols_in i o))

gathered_in : ℕ → Object → List Symbol → List FunctionSymbol
gathered_in n o ss = filter_map (λ (q : ℕ × Symbol). symbol_in n o.sections q.0 q.1) (enumerate_from 0 ss)

pub symbols_more : (n : ℕ) (o : Object) (ss : List Symbol) (ts : List Section) (i : ℕ) (s : Symbol) (start old new : List FunctionSymbol) → ss ≡ o.symbols → ts ≡ o.sections → i < length ss → s ≡ get_or ss i s
    → old ≡ start ++ filter_map (λ (q : ℕ × Symbol). symbol_in n o.sections q.0 q.1) (enumerate_from 0 (take i o.symbols)) → new ≡ old ++ option_to_list (symbol_in n ts i s)
    → new ≡ start ++ filter_map (λ (q : ℕ × Symbol). symbol_in n o.sections q.0 q.1) (enumerate_from 0 (take (i + 1) o.symbols))
unfolding gathered_in
symbols_more n o ss ts i s start old new are these within is before push =
    let inside : i < length o.symbols = subst (λ (xs : List Symbol). i < length xs) are within in
    let here : s ≡ get_or o.symbols i s = is ∙ ap (λ (xs : List Symbol). get_or xs i s) are in
    push ∙ ap (λ (xs : List Section). old ++ option_to_list (symbol_in n xs i s)) these ∙ ap (λ (fs : List FunctionSymbol). fs ++ option_to_list (symbol_in n o.sections i s)) before
    ∙ append_assoc start (gathered_in n o (take i o.symbols)) (option_to_list (symbol_in n o.sections i s)) ∙ ap (λ (fs : List FunctionSymbol). start ++ fs) (sym (symbol_gathered n o i s inside here))
