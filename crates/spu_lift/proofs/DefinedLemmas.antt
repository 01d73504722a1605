-- Global definitions, one symbol after another, and one object after another.
use Rattle.std.proofs.Common.{◌≡◌, ℕ, zero, suc, ◌+◌, ◌<◌, Bool, true, false, cond, List, [], ◌∷◌, ◌++◌, length, take, get_or, Option, Some, None, Bor, is_some, refl, sym, ap, subst, ◌∙◌, inl, inr, arith, if◌then◌else◌, add-zero, append-nil, true≢false}
use Rattle.std.specs.Option.{option_or, option_map}
use Rattle.std.specs.List.{cons_option, enumerate_from, filter_map, find, flat_map}
use Rattle.std.specs.Map.{lookup}
use Rattle.std.specs.Str.{bytes_eq}
use Rattle.indexmap.specs.IndexMap.{insert_entry}
use Rattle.std.proofs.lemmas.Bool.{cases_Bool}
use Rattle.std.proofs.lemmas.List.{take_more, length-take-le}
use Rattle.std.proofs.lemmas.List.Elements.{filter_map-append}
use Rattle.std.proofs.lemmas.Grind.{flat_map-append}
use Rattle.std.proofs.lemmas.Slice.Eq.{bytes_eq-Decides}
use Rattle.spu_elf.specs.declared.objects.Symbol.{Symbol}
use Rattle.spu_elf.specs.declared.objects.Object.{Object}
use Rattle.spu_lift.specs.declared.definitions.SymbolId.{SymbolId}
use Rattle.spu_lift.specs.declared.definitions.Definitions.{Definitions}
use Rattle.spu_lift.specs.Tables.{Definition, definition_at, definition_of, definitions, definitions_in, first_named, is_definition, numbered}
use Rattle.spu_lift.specs.Defined.{AreDefined, first_id, id_of, named}

abbrev pub Entries : Type 0
Entries = List (Bor (List ℕ) × SymbolId)

abbrev pub its : List ℕ → Bor (List ℕ) → Bool
its q k = bytes_eq q k.now

-- a name that isn't there is put behind the others
pub added : (es : Entries) (k : Bor (List ℕ)) (id : SymbolId) → lookup (its k.now) es ≡ None → (q : List ℕ)
    → lookup (its q) (insert_entry (λ (a b : Bor (List ℕ)). bytes_eq a.now b.now) es k id) ≡ option_or (lookup (its q) es) (if bytes_eq q k.now then Some id else None)
added [] k id none q = refl
added (e ∷ es) k id none q = elim (cases_Bool (bytes_eq k.now e.0.now)) [
  | inl is ↦ absurd (let bad : Some e.1 ≡ None = rw is at none in cc)
  | inr not ↦ let rest : lookup (its k.now) es ≡ None = rw not at none in let more = added es k id rest q in rw not (behind more)
]
  where
    behind : lookup (its q) (insert_entry (λ (a b : Bor (List ℕ)). bytes_eq a.now b.now) es k id) ≡ option_or (lookup (its q) es) (if bytes_eq q k.now then Some id else None)
        → cond (bytes_eq q e.0.now) (Some e.1) (lookup (its q) (insert_entry (λ (a b : Bor (List ℕ)). bytes_eq a.now b.now) es k id)) ≡ option_or (cond (bytes_eq q e.0.now) (Some e.1) (lookup (its q) es)) (if bytes_eq q k.now then Some id else None)
    behind more = elim (cases_Bool (bytes_eq q e.0.now)) [
      | inl is ↦ rw is refl
      | inr not ↦ rw not more
    ]

or_more : {X : Type 0} (o p : Option X) (x : X) → o ≡ Some x → o ≡ option_or o p
or_more o p x is = is ∙ ap (λ v. option_or v p) (sym is)

-- a name that is there keeps its definition
pub kept : (es : Entries) (name : List ℕ) (id other : SymbolId) → lookup (its name) es ≡ Some other → (q : List ℕ)
    → lookup (its q) es ≡ option_or (lookup (its q) es) (if bytes_eq q name then Some id else None)
kept es name id other there q = elim (cases_Bool (bytes_eq q name)) [
  | inl is ↦
      let same : q ≡ name = (bytes_eq-Decides q name).0 is in
      or_more (lookup (its q) es) (if bytes_eq q name then Some id else None) other (ap (λ x. lookup (its x) es) same ∙ there)
  | inr not ↦ rw not (or_none (lookup (its q) es))
]
  where
    or_none : (o : Option SymbolId) → o ≡ option_or o None
    or_none None = refl
    or_none (Some x) = refl

-- ---- one more symbol

find_more : {X : Type 0} (p : X → Bool) (xs ys : List X) → find p (xs ++ ys) ≡ option_or (find p xs) (find p ys)
find_more p [] ys = refl
find_more p (x ∷ xs) ys = elim (cases_Bool (p x)) [
  | inl is ↦ rw is refl
  | inr not ↦ rw not (find_more p xs ys)
]

map_or : (o p : Option Definition) → option_map id_of (option_or o p) ≡ option_or (option_map id_of o) (option_map id_of p)
map_or None p = refl
map_or (Some x) p = refl

pub first_more : (q : List ℕ) (xs ys : List Definition) → first_id q (xs ++ ys) ≡ option_or (first_id q xs) (first_id q ys)
first_more q xs ys = ap (option_map id_of) (find_more (λ (d : Definition). bytes_eq q d.symbol.name) xs ys) ∙ map_or (first_named q xs) (first_named q ys)

pub enumerate_more : {X : Type 0} (n : ℕ) (xs : List X) (x : X) → enumerate_from n (xs ++ x ∷ []) ≡ enumerate_from n xs ++ (n + length xs, x) ∷ []
enumerate_more n [] x = rw add-zero refl
enumerate_more n (y ∷ xs) x =
    let sum : (n + 1) + length xs ≡ n + length (y ∷ xs) = omega arith in
    ap (λ ps. (n, y) ∷ ps) (enumerate_more (n + 1) xs x ∙ ap (λ m. enumerate_from (n + 1) xs ++ (m, x) ∷ []) sum)

-- the element at an index comes next
pub enumerate_next : {X : Type 0} (xs : List X) (i : ℕ) (x : X) → i < length xs → x ≡ get_or xs i x → enumerate_from 0 (take (i + 1) xs) ≡ enumerate_from 0 (take i xs) ++ (i, x) ∷ []
enumerate_next xs i x within is =
    let next : take (i + 1) xs ≡ take i xs ++ x ∷ [] = take_more xs i x within ∙ ap (λ y. take i xs ++ y ∷ []) (sym is) in
    let size : length (take i xs) ≡ i = length-take-le i xs (omega arith) in
    let count : 0 + length (take i xs) ≡ i = omega arith in
    ap (enumerate_from 0) next ∙ enumerate_more 0 (take i xs) x ∙ ap (λ m. enumerate_from 0 (take i xs) ++ (m, x) ∷ []) count

one_id : (n j : ℕ) (s : Symbol) (q : List ℕ) → first_id q (cons_option (definition_at n j s) ([])) ≡ (if is_definition s then (if bytes_eq q s.name then Some (record { object = n; symbol = j }) else None) else None)
one_id n j s q = elim (cases_Bool (is_definition s)) [
  | inl is ↦ rw is (named_so (bytes_eq q s.name) refl)
  | inr not ↦ rw not refl
]
  where
    named_so : (b : Bool) → bytes_eq q s.name ≡ b → option_map id_of (cond b (Some (numbered n j s)) None) ≡ cond b (Some (record { object = n; symbol = j })) None
    named_so true e = refl
    named_so false e = refl

or_assoc : {X : Type 0} (a b c : Option X) → option_or (option_or a b) c ≡ option_or a (option_or b c)
or_assoc None b c = refl
or_assoc (Some x) b c = refl

pub symbol_more : (n : ℕ) (ss : List Symbol) (i : ℕ) (s : Symbol) → i < length ss → s ≡ get_or ss i s → (q : List ℕ) (start seen new : Option SymbolId)
    → seen ≡ option_or start (first_id q (definitions_in n (take i ss)))
    → new ≡ option_or seen (if is_definition s then (if bytes_eq q s.name then Some (record { object = n; symbol = i }) else None) else None)
    → new ≡ option_or start (first_id q (definitions_in n (take (i + 1) ss)))
symbol_more n ss i s within is q start seen new before step =
    let h : ℕ × Symbol → Option Definition = λ (p : ℕ × Symbol). definition_at n p.0 p.1 in
    let more : definitions_in n (take (i + 1) ss) ≡ definitions_in n (take i ss) ++ cons_option (definition_at n i s) ([]) =
    ap (filter_map h) (enumerate_next ss i s within is) ∙ filter_map-append h (enumerate_from 0 (take i ss)) ((i, s) ∷ []) in
    let first : first_id q (definitions_in n (take (i + 1) ss)) ≡ option_or (first_id q (definitions_in n (take i ss))) (if is_definition s then (if bytes_eq q s.name then Some (record { object = n; symbol = i }) else None) else None) =
    ap (first_id q) more ∙ first_more q (definitions_in n (take i ss)) (cons_option (definition_at n i s) ([])) ∙ ap (option_or (first_id q (definitions_in n (take i ss)))) (one_id n i s q) in
    step ∙ ap (λ o. option_or o (if is_definition s then (if bytes_eq q s.name then Some (record { object = n; symbol = i }) else None) else None)) before
    ∙ or_assoc start (first_id q (definitions_in n (take i ss))) (if is_definition s then (if bytes_eq q s.name then Some (record { object = n; symbol = i }) else None) else None) ∙ ap (option_or start) (sym first)

-- ---- one more object

pub object_defined : (os : List Object) (i : ℕ) (o : Object) (ss : List Symbol) → i < length os → o ≡ get_or os i o → ss ≡ o.symbols → (old new : Definitions)
    → AreDefined (take i os) old → ((q : List ℕ) → named new q ≡ option_or (named old q) (first_id q (definitions_in i ss))) → AreDefined (take (i + 1) os) new
object_defined os i o ss within is are old new before step q =
    let h : ℕ × Object → List Definition = λ (p : ℕ × Object). definitions_in p.0 p.1.symbols in
    let more : definitions (take (i + 1) os) ≡ definitions (take i os) ++ definitions_in i o.symbols =
    ap (flat_map h) (enumerate_next os i o within is) ∙ flat_map-append h (enumerate_from 0 (take i os)) ((i, o) ∷ []) ∙ ap (λ ds. definitions (take i os) ++ ds) (append-nil (definitions_in i o.symbols)) in
    step q ∙ ap (λ x. option_or (named old q) (first_id q (definitions_in i x))) are ∙ ap (λ x. option_or x (first_id q (definitions_in i o.symbols))) (before q)
    ∙ sym (ap (first_id q) more ∙ first_more q (definitions (take i os)) (definitions_in i o.symbols))
