-- Where definitions stand: each is the symbol of its numbers, and where no name is defined twice each is the first of its name.
use Rattle.std.proofs.Common.{◌≡◌, ◌≢◌, ℕ, zero, suc, ◌+◌, ◌-◌, ◌<◌, ◌≤◌, ◌⊎◌, Bool, true, false, cond, not, ◌&&◌, List, [], ◌∷◌, ◌++◌, length, take, Option, Some, None, slice_get, length-append, refl, sym, ap, subst, ◌∙◌, inl, inr, arith, true≢false}
use Rattle.std.specs.Option.{option_map_or}
use Rattle.std.specs.List.{cons_option, enumerate_from, filter_map, find, flat_map}
use Rattle.std.specs.Str.{bytes_eq}
use Rattle.std.proofs.lemmas.Bool.{cases_Bool, cases_lt, and_from}
use Rattle.spu_word.proofs.Places.{nat_equal}
use Rattle.spu_elf.specs.declared.objects.SymPlace.{SymPlace}
use Rattle.spu_elf.specs.declared.objects.SymPlace.TheVariants as places
use Rattle.spu_elf.specs.declared.objects.Symbol.{Symbol}
use Rattle.spu_elf.specs.declared.objects.Object.{Object}
use Rattle.spu_lift.specs.declared.fault.LiftKind.TheVariants.{DuplicateSymbol}
use Rattle.spu_lift.specs.declared.fault.LiftFault.TheVariants as faults
use Rattle.spu_lift.specs.Tables.{Definition, definition_at, definition_of, definitions, definitions_in, first_named, is_definition, is_undefined, numbered, symbol_at, symbols_of}
use Rattle.spu_lift.specs.LiftFaults.{IsAbsent}
use Rattle.spu_lift.proofs.SectionNumbers.{at_back, at_front}
use Rattle.spu_lift.proofs.OneExtent.{at_one}

some_one : {X : Type 0} (x y : X) → Some x ≡ Some y → x ≡ y
some_one x y e = cc

-- ---- lists

pub found_there : {X : Type 0} (test : X → Bool) (xs : List X) (x : X) → find test xs ≡ Some x → (i : ℕ) × (slice_get xs i ≡ Some x) × (test x ≡ true)
found_there test [] x found = absurd (cc)
found_there {X} test (y ∷ xs) x found = elim (cases_Bool (test y)) [
  | inl is ↦ let e : y ≡ x = some_one y x (rw is at found) in (zero, ap Some e, subst (λ (z : X). test z ≡ true) e is)
  | inr not ↦ let rest = found_there test xs x (rw not at found) in (suc rest.0, rest.1, rest.2)
]

-- an element of a mapped list comes from one of the list, by its number
pub record CameFrom {X Y : Type 0} (f : ℕ → X → Option Y) (from : ℕ) (xs : List X) (y : Y) : Type 0 where
  pub j : ℕ
  pub x : X
  pub there : slice_get xs j ≡ Some x
  pub gives : f (from + j) x ≡ Some y

pub mapped_from : {X Y : Type 0} (f : ℕ → X → Option Y) (from : ℕ) (xs : List X) (i : ℕ) (y : Y) → slice_get (filter_map (λ (p : ℕ × X). f p.0 p.1) (enumerate_from from xs)) i ≡ Some y → CameFrom f from xs y
mapped_from f from [] i y at = absurd (cc)
mapped_from {X} {Y} f from (x ∷ xs) i y at = by (λ m here. next (mapped_from f (from + 1) xs m y here)) (f from x) refl i at
  where
    next : CameFrom f (from + 1) xs y → CameFrom f from (x ∷ xs) y
    next c =
        let sum : (from + 1) + c.j ≡ from + suc c.j = omega arith in
        record { j = suc c.j; x = c.x; there = c.there; gives = ap (λ n. f n c.x) (sym sum) ∙ c.gives }

    by : ((m : ℕ) → slice_get (filter_map (λ (p : ℕ × X). f p.0 p.1) (enumerate_from (from + 1) xs)) m ≡ Some y → CameFrom f from (x ∷ xs) y)
        → (o : Option Y) → f from x ≡ o → (m : ℕ) → slice_get (cons_option (f from x) (filter_map (λ (p : ℕ × X). f p.0 p.1) (enumerate_from (from + 1) xs))) m ≡ Some y → CameFrom f from (x ∷ xs) y
    by rest None is m here = rest m (rw is at here)
    by rest (Some z) is zero here =
        let e : z ≡ y = some_one z y (rw is at here) in
        let sum : from + 0 ≡ from = omega arith in
        record { j = 0; x = x; there = refl; gives = ap (λ n. f n x) sum ∙ is ∙ ap Some e }
    by rest (Some z) is (suc m) here = rest m (rw is at here)

abbrev pub joined : {X Y : Type 0} → (ℕ → X → List Y) → ℕ → List X → List Y
joined {X} {Y} f from xs = flat_map (λ (p : ℕ × X). f p.0 p.1) (enumerate_from from xs)

pub record CameFromOne {X Y : Type 0} (f : ℕ → X → List Y) (from : ℕ) (xs : List X) (at : ℕ) (y : Y) : Type 0 where
  pub j : ℕ
  pub x : X
  pub there : slice_get xs j ≡ Some x
  pub i : ℕ
  pub gives : slice_get (f (from + j) x) i ≡ Some y
  pub index : at ≡ length (joined f from (take j xs)) + i

pub joined_from : {X Y : Type 0} (f : ℕ → X → List Y) (from : ℕ) (xs : List X) (i : ℕ) (y : Y) → slice_get (joined f from xs) i ≡ Some y → CameFromOne f from xs i y
joined_from f from [] i y at = absurd (cc)
joined_from {X} {Y} f from (x ∷ xs) i y at = elim (cases_lt i (length (f from x))) [
  | inl less ↦
      let sum : from + 0 ≡ from = omega arith in
      record {
        j = 0;
        x = x;
        there = refl;
        i = i;
        gives = ap (λ n. slice_get (f n x) i) sum ∙ sym (at_front (f from x) (joined f (from + 1) xs) i less) ∙ at;
        index = omega arith;
      }
  | inr more ↦
      let c : CameFromOne f (from + 1) xs (i - length (f from x)) y = joined_from f (from + 1) xs (i - length (f from x)) y (sym (at_back (f from x) (joined f (from + 1) xs) i more) ∙ at) in
      let sum : (from + 1) + c.j ≡ from + suc c.j = omega arith in
      let size = length-append (f from x) (joined f (from + 1) (take c.j xs)) in
      let behind = c.index in
      record { j = suc c.j; x = c.x; there = c.there; i = c.i; gives = ap (λ n. slice_get (f n c.x) c.i) (sym sum) ∙ c.gives; index = omega (arith, size, behind, more) }
]

-- of a list without numbers
pub record WasKept {X Y : Type 0} (f : X → Option Y) (xs : List X) (at : ℕ) (y : Y) : Type 0 where
  pub j : ℕ
  pub x : X
  pub there : slice_get xs j ≡ Some x
  pub gives : f x ≡ Some y
  pub index : at ≡ length (filter_map f (take j xs))

pub kept_from : {X Y : Type 0} (f : X → Option Y) (xs : List X) (i : ℕ) (y : Y) → slice_get (filter_map f xs) i ≡ Some y → WasKept f xs i y
kept_from f [] i y at = absurd (cc)
kept_from {X} {Y} f (x ∷ xs) i y at = by (λ m here. kept_from f xs m y here) (f x) refl i at
  where
    by : ((m : ℕ) → slice_get (filter_map f xs) m ≡ Some y → WasKept f xs m y) → (o : Option Y) → f x ≡ o → (m : ℕ) → slice_get (cons_option (f x) (filter_map f xs)) m ≡ Some y → WasKept f (x ∷ xs) m y
    by rest None is m here =
        let k = rest m (rw is at here) in
        record { j = suc k.j; x = k.x; there = k.there; gives = k.gives; index = rw is k.index }
    by rest (Some z) is zero here = let e : z ≡ y = some_one z y (rw is at here) in record { j = 0; x = x; there = refl; gives = is ∙ ap Some e; index = refl }
    by rest (Some z) is (suc m) here =
        let k = rest m (rw is at here) in
        record { j = suc k.j; x = k.x; there = k.there; gives = k.gives; index = rw is (ap suc k.index) }

-- ---- definitions

definition_gives : (n j : ℕ) (s : Symbol) (d : Definition) → definition_at n j s ≡ Some d → (is_definition s ≡ true) × (numbered n j s ≡ d)
definition_gives n j s d e = elim (cases_Bool (is_definition s)) [
  | inl is ↦ (is, some_one (numbered n j s) d (rw is at e))
  | inr not ↦ absurd (let bad : None ≡ Some d = rw not at e in cc)
]

-- a definition is the symbol of its numbers, and has the name that it is found by
pub record IsDefined (os : List Object) (name : List ℕ) (d : Definition) : Type 0 where
  pub there : symbol_at os d.object d.number ≡ Some d.symbol
  pub definition : is_definition d.symbol ≡ true
  pub named : bytes_eq name d.symbol.name ≡ true

pub definition_there : (os : List Object) (name : List ℕ) (d : Definition) → definition_of os name ≡ Some d → IsDefined os name d
definition_there os name d found =
    let f = found_there (λ (x : Definition). bytes_eq name x.symbol.name) (definitions os) d found in
    let o = joined_from (λ n (p : Object). definitions_in n p.symbols) 0 os f.0 d f.1 in
    let s = mapped_from (λ j (t : Symbol). definition_at (0 + o.j) j t) 0 o.x.symbols o.i d o.gives in
    let is = definition_gives (0 + o.j) (0 + s.j) s.x d s.gives in
    let n : 0 + o.j ≡ o.j = omega arith in
    let j : 0 + s.j ≡ s.j = omega arith in
    let object : d.object ≡ o.j = ap (λ (x : Definition). x.object) (sym is.1) ∙ n in
    let number : d.number ≡ s.j = ap (λ (x : Definition). x.number) (sym is.1) ∙ j in
    let symbol : s.x ≡ d.symbol = ap (λ (x : Definition). x.symbol) is.1 in
    let symbols : symbols_of os o.j ≡ o.x.symbols = ap (λ p. option_map_or (λ (q : Object). q.symbols) p ([])) o.there in
    record {
      there = ap (λ m. symbol_at os m d.number) object ∙ ap (λ m. symbol_at os o.j m) number ∙ ap (λ (ss : List Symbol). slice_get ss s.j) symbols ∙ s.there ∙ ap Some symbol;
      definition = subst (λ (t : Symbol). is_definition t ≡ true) symbol is.0;
      named = f.2;
    }

same_definition : (d : Definition) (n j : ℕ) (s : Symbol) → d.object ≡ n → d.number ≡ j → d.symbol ≡ s → d ≡ numbered n j s
same_definition d n j s a b c = ap (λ m. numbered m d.number d.symbol) a ∙ ap (λ m. numbered n m d.symbol) b ∙ ap (numbered n j) c

-- where no name is defined twice, each definition is the first of its name
pub first_definition : (os : List Object) (entry : List ℕ) (n j : ℕ) (s : Symbol) → IsAbsent DuplicateSymbol os entry → symbol_at os n j ≡ Some s → is_definition s ≡ true → definition_of os s.name ≡ Some (numbered n j s)
first_definition os entry n j s absent at is = by (definition_of os s.name) refl
  where
    shown : definition_of os s.name ≢ Some (numbered n j s) → ⊥
    shown bad = absent (n ∷ j ∷ []) (faults.Symbol DuplicateSymbol s.name) (record { n = n; j = j; symbol = s; there = at; definition = is; bad = bad; at = refl; told = refl })

    by : (o : Option Definition) → definition_of os s.name ≡ o → definition_of os s.name ≡ Some (numbered n j s)
    by None found = absurd (shown (λ e. let bad : None ≡ Some (numbered n j s) = sym found ∙ e in absurd (cc)))
    by (Some d) found = elim (nat_equal d.object n) [
      | inr ne ↦ absurd (shown (λ e. ne (ap (λ (x : Definition). x.object) (some_one d (numbered n j s) (sym found ∙ e)))))
      | inl object ↦ elim (nat_equal d.number j) [
        | inr ne ↦ absurd (shown (λ e. ne (ap (λ (x : Definition). x.number) (some_one d (numbered n j s) (sym found ∙ e)))))
        | inl number ↦
            let its = definition_there os s.name d found in
            let symbol : d.symbol ≡ s = at_one (symbol_at os d.object d.number) d.symbol s its.there (ap (λ m. symbol_at os m d.number) object ∙ ap (λ m. symbol_at os n m) number ∙ at) in
            found ∙ ap Some (same_definition d n j s object number symbol)
      ]
    ]

-- two definitions of one name are one
pub record AreOneSymbol (n m i j : ℕ) (s t : Symbol) : Type 0 where
  pub objects : n ≡ m
  pub numbers : i ≡ j
  pub symbols : s ≡ t

pub one_definition : (os : List Object) (entry : List ℕ) (n m i j : ℕ) (s t : Symbol) → IsAbsent DuplicateSymbol os entry → symbol_at os n i ≡ Some s → symbol_at os m j ≡ Some t
    → is_definition s ≡ true → is_definition t ≡ true → s.name ≡ t.name → AreOneSymbol n m i j s t
one_definition os entry n m i j s t absent at there one two same =
    let first = first_definition os entry n i s absent at one in
    let second = first_definition os entry m j t absent there two in
    let e : numbered n i s ≡ numbered m j t = some_one (numbered n i s) (numbered m j t) (sym first ∙ ap (definition_of os) same ∙ second) in
    record { objects = ap (λ (d : Definition). d.object) e; numbers = ap (λ (d : Definition). d.number) e; symbols = ap (λ (d : Definition). d.symbol) e }

-- a global symbol inside a section is a definition
pub inside_defined : (s : Symbol) (k : ℕ) → s.global ≡ true → s.place ≡ places.Inside k → is_definition s ≡ true
inside_defined s k global inside = rw (global, inside) refl
