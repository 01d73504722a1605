-- The function of the entry: what the table of definitions finds.
use Rattle.std.proofs.Common.{◌≡◌, ℕ, ◌+◌, ◌⊎◌, Bool, true, cond, not, List, [], ◌∷◌, ◌++◌, Option, Some, None, slice_get, refl, sym, ap, subst, ◌∙◌, inl, inr}
use Rattle.std.specs.List.{enumerate_from, filter_map, find, flat_map}
use Rattle.std.specs.Prelude.{IfErr, IfNone, IfOk, IfSome, OnOk}
use Rattle.std.specs.Option.{ok_or, option_map}
use Rattle.std.specs.Str.{bytes_eq}
use Rattle.std.proofs.lemmas.Bool.{cases_Bool}
use Rattle.std.proofs.lemmas.Bool.Decides.{eqb_tells}
use Rattle.std.proofs.lemmas.Option.{none-some, same_Some}
use Rattle.std.proofs.lemmas.Slice.Eq.{bytes_eq-Decides}
use Rattle.spu_elf.specs.declared.objects.Section.{Section}
use Rattle.spu_elf.specs.declared.objects.Symbol.{Symbol}
use Rattle.spu_elf.specs.declared.objects.Object.{Object}
use Rattle.spu_lift.specs.declared.fault.LiftKind.TheVariants.{DuplicateSymbol, NoEntry}
use Rattle.spu_lift.specs.declared.fault.LiftFault.TheVariants as faults
use Rattle.spu_lift.specs.declared.relocations.Spot.{Spot}
use Rattle.spu_lift.specs.declared.definitions.SymbolId.{SymbolId}
use Rattle.spu_lift.specs.Tables.{Definition, definition_at, definition_of, definitions_in, is_definition, is_undefined, numbered, symbol_at}
use Rattle.spu_lift.specs.Extents.{Extent, IsFunctionSymbol}
use Rattle.spu_lift.specs.Lifted.{IsEntry}
use Rattle.spu_lift.specs.LiftFaults.{IsDuplicate, Shows}
use Rattle.spu_lift.specs.Defined.{id_of}
use Rattle.spu_lift.specs.LookUps.{IsThere}
use Rattle.spu_lift.specs.Checks.{IsAnswer, IsEntryAt, IsFunctionAt, IsNowhere, first_spot, function_section}
use Rattle.spu_lift.proofs.FirstPlaces.{here_first}
use Rattle.spu_lift.proofs.ExtentFacts.{both_true, covered, covering_so, in_code, object_at, true_both}

-- ---- what is found is a definition of that name

abbrev pub IsNamed : List ℕ → Definition → Type 0
IsNamed name d = (bytes_eq name d.symbol.name ≡ true) × (is_definition d.symbol ≡ true)

abbrev its : List ℕ → Definition → Bool
its name d = bytes_eq name d.symbol.name

in_symbols : (name : List ℕ) (n k : ℕ) (ss : List Symbol) (d : Definition) → find (its name) (filter_map (λ (p : ℕ × Symbol). definition_at n p.0 p.1) (enumerate_from k ss)) ≡ Some d → IsNamed name d
in_symbols name n k [] d found = absurd (none-some d found)
in_symbols name n k (s ∷ ss) d found = elim (cases_Bool (is_definition s)) [
  | inr not ↦ in_symbols name n (k + 1) ss d (rw not at found)
  | inl is ↦
      let more : cond (bytes_eq name s.name) (Some (numbered n k s)) (find (its name) (filter_map (λ (p : ℕ × Symbol). definition_at n p.0 p.1) (enumerate_from (k + 1) ss))) ≡ Some d = rw is at found in
      elim (cases_Bool (bytes_eq name s.name)) [
        | inl named ↦
            let same : numbered n k s ≡ d = same_Some (numbered n k s) d (rw named at more) in
            subst (IsNamed name) same (named, is)
        | inr other ↦ in_symbols name n (k + 1) ss d (rw other at more)
      ]
]

in_either : (name : List ℕ) (ds es : List Definition) (d : Definition) → find (its name) (ds ++ es) ≡ Some d → (find (its name) ds ≡ Some d) ⊎ (find (its name) es ≡ Some d)
in_either name [] es d found = inr found
in_either name (x ∷ ds) es d found = elim (cases_Bool (its name x)) [
  | inl is ↦ inl (rw is (rw is at found))
  | inr not ↦ elim (in_either name ds es d (rw not at found)) [
    | inl here ↦ inl (rw not here)
    | inr there ↦ inr there
  ]
]

in_objects : (name : List ℕ) (k : ℕ) (os : List Object) (d : Definition) → find (its name) (flat_map (λ (p : ℕ × Object). definitions_in p.0 p.1.symbols) (enumerate_from k os)) ≡ Some d → IsNamed name d
in_objects name k [] d found = absurd (none-some d found)
in_objects name k (o ∷ os) d found =
    elim (in_either name (definitions_in k o.symbols) (flat_map (λ (p : ℕ × Object). definitions_in p.0 p.1.symbols) (enumerate_from (k + 1) os)) d found) [
      | inl here ↦ in_symbols name k 0 o.symbols d here
      | inr there ↦ in_objects name (k + 1) os d there
    ]

pub definition_is_named : (os : List Object) (name : List ℕ) (d : Definition) → definition_of os name ≡ Some d → (d.symbol.name ≡ name) × (is_definition d.symbol ≡ true)
definition_is_named os name d found =
    let is = in_objects name 0 os d found in
    (sym ((bytes_eq-Decides name d.symbol.name).0 is.0), is.1)

-- ---- where no two have one name, each definition is found

pub definition_found : (os : List Object) (n j : ℕ) (s : Symbol) → ((name : List ℕ) (d : Definition) → definition_of os name ≡ Some d → IsThere os d)
    → IsNowhere (Shows DuplicateSymbol os ([])) → symbol_at os n j ≡ Some s → is_definition s ≡ true → definition_of os s.name ≡ Some (numbered n j s)
definition_found os n j s there unique at is = by (definition_of os s.name) refl
  where
    other : IsDuplicate os n j s → ⊥
    other duplicate = unique (n ∷ j ∷ []) (faults.Symbol DuplicateSymbol s.name) (record { n = n; j = j; symbol = s; there = at; definition = is; bad = duplicate; at = refl; told = refl })

    by : (o : Option Definition) → definition_of os s.name ≡ o → definition_of os s.name ≡ Some (numbered n j s)
    by None none = absurd (other (λ same. none-some (numbered n j s) (sym none ∙ same)))
    by (Some d) found = elim (eqb_tells d.object n) [
      | inr (unequal, apart) ↦ absurd (other (λ same. apart (ap (λ (x : Definition). x.object) (same_Some d (numbered n j s) (sym found ∙ same)))))
      | inl (equal, object) ↦ elim (eqb_tells d.number j) [
        | inr (unequal, apart) ↦ absurd (other (λ same. apart (ap (λ (x : Definition). x.number) (same_Some d (numbered n j s) (sym found ∙ same)))))
        | inl (equals, number) ↦ found ∙ ap Some (whole d object number (there s.name d found))
      ]
    ]
      where
        whole : (x : Definition) → x.object ≡ n → x.number ≡ j → IsThere os x → x ≡ numbered n j s
        whole x object number here =
            let symbol : x.symbol ≡ s = same_Some x.symbol s (sym here ∙ ap (λ k. symbol_at os k x.number) object ∙ ap (symbol_at os n) number ∙ at) in
            ap (λ k. numbered k x.number x.symbol) object ∙ ap (λ k. numbered n k x.symbol) number ∙ ap (numbered n j) symbol

-- ---- the entry

-- a global symbol of a function is a definition
function_defines : (os : List Object) (x : Extent) (j : ℕ) (s : Symbol) (t : Section) → IsFunctionSymbol os x j s t → s.global ≡ true → is_definition s ≡ true
function_defines os x j s t is global =
    let says = covered x s is.covers in
    true_both s.global (not (is_undefined s.place)) global (ap (λ p. not (is_undefined p)) says.place)

-- what the table has of the entry's name
entry_found : (os : List Object) (name : List ℕ) (x : Extent) → ((q : List ℕ) (d : Definition) → definition_of os q ≡ Some d → IsThere os d) → IsNowhere (Shows DuplicateSymbol os ([]))
    → (is : IsEntry os name x) → option_map id_of (definition_of os name) ≡ Some (record { object = x.object; symbol = is.j })
entry_found os name x there unique is =
    let found = definition_found os x.object is.j is.symbol there unique is.function.symbol (function_defines os x is.j is.symbol is.section is.function is.global) in
    ap (λ q. option_map id_of (definition_of os q)) (sym is.named) ∙ ap (option_map id_of) found

pub no_entry : (os : List Object) (name : List ℕ) → ((x : Extent) → IsEntry os name x → ⊥) → IsAnswer (Shows NoEntry os name) faults.NoEntry
no_entry os name none = here_first (Shows NoEntry os name) faults.NoEntry (record { none = none; at = refl; told = refl })

-- no definition has the name
pub none_named : (os : List Object) (name : List ℕ) → ((q : List ℕ) (d : Definition) → definition_of os q ≡ Some d → IsThere os d) → IsNowhere (Shows DuplicateSymbol os ([]))
    → option_map id_of (definition_of os name) ≡ None → IsAnswer (Shows NoEntry os name) faults.NoEntry
none_named os name there unique none = no_entry os name (λ x is. none-some (record { object = x.object; symbol = is.j }) (sym none ∙ entry_found os name x there unique is))

-- the one of that name is no function
pub no_function : (os : List Object) (name : List ℕ) (id : SymbolId) → ((q : List ℕ) (d : Definition) → definition_of os q ≡ Some d → IsThere os d) → IsNowhere (Shows DuplicateSymbol os ([]))
    → option_map id_of (definition_of os name) ≡ Some id → ((spot : Spot) → IsFunctionAt os id spot → ⊥) → IsAnswer (Shows NoEntry os name) faults.NoEntry
no_function os name id there unique found none = no_entry os name (λ x is.
    let same : id ≡ record { object = x.object; symbol = is.j } = same_Some id (record { object = x.object; symbol = is.j }) (sym found ∙ entry_found os name x there unique is) in
    none (first_spot x) (record {
      x = x;
      symbol = is.symbol;
      section = is.section;
      function = subst (λ (k : ℕ). IsFunctionSymbol os x k is.symbol is.section) (sym (ap (λ (i : SymbolId). i.symbol) same)) is.function;
      object = sym (ap (λ (i : SymbolId). i.object) same);
      at = refl;
    }))

-- or the entry
pub is_entry : (os : List Object) (name : List ℕ) (id : SymbolId) (spot : Spot) → ((q : List ℕ) (d : Definition) → definition_of os q ≡ Some d → IsThere os d)
    → option_map id_of (definition_of os name) ≡ Some id → IsFunctionAt os id spot → IsEntryAt os name spot
is_entry os name id spot there found at = by (definition_of os name) refl found
  where
    by : (o : Option Definition) → definition_of os name ≡ o → option_map id_of o ≡ Some id → IsEntryAt os name spot
    by None none is = absurd (none-some id is)
    by (Some d) is same =
        let ids : id_of d ≡ id = same_Some (id_of d) id same in
        let object : d.object ≡ at.x.object = ap (λ (i : SymbolId). i.object) ids ∙ sym at.object in
        let number : d.number ≡ id.symbol = ap (λ (i : SymbolId). i.symbol) ids in
        let symbol : d.symbol ≡ at.symbol = same_Some d.symbol at.symbol (sym (there name d is) ∙ ap (λ k. symbol_at os k d.number) object ∙ ap (symbol_at os at.x.object) number ∙ at.function.symbol) in
        let named = definition_is_named os name d is in
        let global = both_true d.symbol.global (not (is_undefined d.symbol.place)) named.1 in
        record {
          x = at.x;
          entry = record {
            j = id.symbol;
            symbol = at.symbol;
            section = at.section;
            function = at.function;
            global = ap (λ (s : Symbol). s.global) (sym symbol) ∙ global.0;
            named = ap (λ (s : Symbol). s.name) (sym symbol) ∙ named.0;
          };
          at = at.at;
        }

-- so it is not missing
pub not_missing : (os : List Object) (name : List ℕ) (spot : Spot) → IsEntryAt os name spot → IsNowhere (Shows NoEntry os name)
not_missing os name spot at place fault shown = shown.none at.x at.entry

-- ---- where a symbol's function begins

pub starts_at : (os : List Object) (id : SymbolId) (o : Object) (s : Symbol) (k : ℕ) → slice_get os id.object ≡ Some o → slice_get o.symbols id.symbol ≡ Some s → function_section o.sections s ≡ Some k
    → IsFunctionAt os id (record { object = id.object; section = k; offset = s.value })
starts_at os id o s k there symbol section =
    let object = object_at os id.object o there in
    let code = in_code o.sections s s.place k section in
    record {
      x = record { object = id.object; section = k; offset = s.value; size = s.size };
      symbol = s;
      section = code.t;
      function = record {
        symbol = ap (λ ss. slice_get ss id.symbol) object.symbols ∙ symbol;
        covers = covering_so (record { object = id.object; section = k; offset = s.value; size = s.size }) s (record { function = code.function; place = code.inside; value = refl; size = refl });
        some = code.some;
        section = ap (λ ts. slice_get ts k) object.sections ∙ code.there;
        code = code.code;
      };
      object = refl;
      at = refl;
    }

pub starts_ok : (os : List Object) (name : List ℕ) (id : SymbolId) (o : Option Spot) → ((q : List ℕ) (d : Definition) → definition_of os q ≡ Some d → IsThere os d) → option_map id_of (definition_of os name) ≡ Some id
    → IfSome o (IsFunctionAt os id) → IfOk (ok_or o faults.NoEntry) (IsEntryAt os name)
starts_ok os name id None there found at = tt
starts_ok os name id (Some spot) there found at = is_entry os name id spot there found at

pub starts_none : (os : List Object) (name : List ℕ) (id : SymbolId) (o : Option Spot) → ((q : List ℕ) (d : Definition) → definition_of os q ≡ Some d → IsThere os d) → option_map id_of (definition_of os name) ≡ Some id
    → IfSome o (IsFunctionAt os id) → OnOk (ok_or o faults.NoEntry) (IsNowhere (Shows NoEntry os name))
starts_none os name id None there found at = tt
starts_none os name id (Some spot) there found at = not_missing os name spot (is_entry os name id spot there found at)

pub starts_err : (os : List Object) (name : List ℕ) (id : SymbolId) (o : Option Spot) → ((q : List ℕ) (d : Definition) → definition_of os q ≡ Some d → IsThere os d) → IsNowhere (Shows DuplicateSymbol os ([]))
    → option_map id_of (definition_of os name) ≡ Some id → IfNone o ((spot : Spot) → IsFunctionAt os id spot → ⊥) → IfErr (ok_or o faults.NoEntry) (IsAnswer (Shows NoEntry os name))
starts_err os name id None there unique found none = no_function os name id there unique found none
starts_err os name id (Some spot) there unique found none = tt
