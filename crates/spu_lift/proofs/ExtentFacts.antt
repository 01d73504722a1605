-- A symbol of an extent: what it says of itself, the section that it is in, and that the extent ends inside it.
use Rattle.std.proofs.Common.{◌≡◌, ℕ, ◌+◌, ◌<◌, ◌≤◌, Bool, true, false, ◌&&◌, ◌==◌, cond, nat_lt, List, [], length, Option, Some, None, slice_get, refl, sym, ap, subst, ◌∙◌, arith}
use Rattle.std.specs.Prelude.{All}
use Rattle.std.specs.Option.{option_map_or}
use Rattle.std.proofs.lemmas.Bool.{eqb-true, eq-eqb}
use Rattle.std.proofs.lemmas.Bool.Decides.{nat_tests}
use Rattle.std.proofs.lemmas.Option.{cond_some, none-some, same_Some, slice_get_within}
use Rattle.spu_word.specs.declared.limits.TheConstants.{MAX_SECTION_SIZE}
use Rattle.spu_elf.specs.Validity.{EndsIn, IsWellFormedSection, bytes_len}
use Rattle.spu_elf.specs.WellFormed.{IsWellFormed, IsWellFormedSymbol}
use Rattle.spu_elf.specs.declared.objects.SecKind.{SecKind}
use Rattle.spu_elf.specs.declared.objects.SecKind.TheVariants as kinds
use Rattle.spu_elf.specs.declared.objects.Section.{Section}
use Rattle.spu_elf.specs.declared.objects.SymPlace.{SymPlace}
use Rattle.spu_elf.specs.declared.objects.SymPlace.TheVariants as places
use Rattle.spu_elf.specs.declared.objects.Symbol.{Symbol}
use Rattle.spu_elf.specs.declared.objects.Object.{Object}
use Rattle.spu_lift.specs.Tables.{is_code, relocs_of, section_at, sections_of, symbol_at, symbols_of}
use Rattle.spu_lift.specs.Extents.{Extent, IsFunctionSymbol, covers, is_function, is_inside}
use Rattle.spu_lift.specs.Checks.{function_section, function_section_by}
use Rattle.spu_lift.proofs.FirstPlaces.{all_at}

pub both_true : (a b : Bool) → (a && b) ≡ true → (a ≡ true) × (b ≡ true)
both_true true b e = (refl, e)
both_true false b e = absurd (cc)

pub true_both : (a b : Bool) → a ≡ true → b ≡ true → (a && b) ≡ true
true_both a b one two = rw (one, two) refl

-- ---- objects

pub record IsObjectAt (os : List Object) (n : ℕ) (o : Object) : Type 0 where
  pub within : n < length os
  pub there : slice_get os n ≡ Some o
  pub sections : sections_of os n ≡ o.sections
  pub symbols : symbols_of os n ≡ o.symbols
  pub relocs : relocs_of os n ≡ o.relocs

pub object_at : (os : List Object) (n : ℕ) (o : Object) → slice_get os n ≡ Some o → IsObjectAt os n o
object_at os n o there = record {
  within = slice_get_within os n o there;
  there = there;
  sections = ap (λ x. option_map_or (λ (y : Object). y.sections) x ([])) there;
  symbols = ap (λ x. option_map_or (λ (y : Object). y.symbols) x ([])) there;
  relocs = ap (λ x. option_map_or (λ (y : Object). y.relocs) x ([])) there;
}

-- the object of a symbol
pub object_of_symbol : (os : List Object) (n j : ℕ) (s : Symbol) → symbol_at os n j ≡ Some s → (o : Object) × IsObjectAt os n o × (slice_get o.symbols j ≡ Some s)
object_of_symbol os n j s at = by (slice_get os n) refl
  where
    by : (o : Option Object) → slice_get os n ≡ o → (x : Object) × IsObjectAt os n x × (slice_get x.symbols j ≡ Some s)
    by None none = absurd (none-some s (sym (ap (λ x. slice_get (option_map_or (λ (y : Object). y.symbols) x ([])) j) none) ∙ at))
    by (Some o) there = let is = object_at os n o there in (o, is, ap (λ ss. slice_get ss j) (sym is.symbols) ∙ at)

pub section_of_object : (os : List Object) (n k : ℕ) (t : Section) → section_at os n k ≡ Some t → n < length os
section_of_object os n k t at = by (slice_get os n) refl
  where
    by : (o : Option Object) → slice_get os n ≡ o → n < length os
    by None none = absurd (none-some t (sym (ap (λ x. slice_get (option_map_or (λ (y : Object). y.sections) x ([])) k) none) ∙ at))
    by (Some o) there = slice_get_within os n o there

-- ---- what a covering symbol says

pub record IsOfExtent (x : Extent) (s : Symbol) : Type 0 where
  pub function : is_function s.kind ≡ true
  pub place : s.place ≡ places.Inside x.section
  pub value : s.value ≡ x.offset
  pub size : s.size ≡ x.size

inside_only : (place : SymPlace) (k : ℕ) → is_inside place k ≡ true → place ≡ places.Inside k
inside_only (places.Inside m) k e = ap places.Inside (eqb-true m k e)
inside_only places.Undefined k e = absurd (cc)
inside_only places.Absolute k e = absurd (cc)

pub covered : (x : Extent) (s : Symbol) → covers x s ≡ true → IsOfExtent x s
covered x s is =
    let halves = both_true (is_function s.kind && is_inside s.place x.section) ((s.value == x.offset) && (s.size == x.size)) is in
    let first = both_true (is_function s.kind) (is_inside s.place x.section) halves.0 in
    let second = both_true (s.value == x.offset) (s.size == x.size) halves.1 in
    record {
      function = first.0;
      place = inside_only s.place x.section first.1;
      value = eqb-true s.value x.offset second.0;
      size = eqb-true s.size x.size second.1;
    }

pub covering_so : (x : Extent) (s : Symbol) → IsOfExtent x s → covers x s ≡ true
covering_so x s is =
    let placed : is_inside s.place x.section ≡ true = ap (λ p. is_inside p x.section) is.place ∙ eq-eqb x.section x.section refl in
    true_both (is_function s.kind && is_inside s.place x.section) ((s.value == x.offset) && (s.size == x.size))
    (true_both (is_function s.kind) (is_inside s.place x.section) is.function placed)
    (true_both (s.value == x.offset) (s.size == x.size) (eq-eqb s.value x.offset is.value) (eq-eqb s.size x.size is.size))

-- ---- the section of code that a symbol of a function is in

pub code_only : (k : SecKind) → is_code k ≡ true → k ≡ kinds.Code
code_only kinds.Code e = refl
code_only kinds.Const e = absurd (cc)
code_only kinds.Vars e = absurd (cc)
code_only kinds.Zero e = absurd (cc)

pub section_of_code : (ts : List Section) (s : Symbol) (k : ℕ) (t : Section) → s.place ≡ places.Inside k → is_function s.kind ≡ true → 1 ≤ s.size → slice_get ts k ≡ Some t → t.kind ≡ kinds.Code → function_section ts s ≡ Some k
section_of_code ts s k t inside function some there code =
    let long : nat_lt 0 s.size ≡ true = grind (arith, nat_tests) in
    let coded : option_map_or (λ (x : Section). is_code x.kind) (slice_get ts k) false ≡ true = ap (λ o. option_map_or (λ (x : Section). is_code x.kind) o false) there ∙ ap is_code code in
    let test : ((is_function s.kind && nat_lt 0 s.size) && option_map_or (λ (x : Section). is_code x.kind) (slice_get ts k) false) ≡ true =
    true_both (is_function s.kind && nat_lt 0 s.size) (option_map_or (λ (x : Section). is_code x.kind) (slice_get ts k) false) (true_both (is_function s.kind) (nat_lt 0 s.size) function long) coded in
    ap (function_section_by ts s) inside ∙ ap (λ b. cond b (Some k) None) test

pub record IsInCode (ts : List Section) (s : Symbol) (place : SymPlace) (k : ℕ) : Type 0 where
  pub t : Section
  pub there : slice_get ts k ≡ Some t
  pub code : t.kind ≡ kinds.Code
  pub inside : place ≡ places.Inside k
  pub function : is_function s.kind ≡ true
  pub some : 1 ≤ s.size

pub in_code : (ts : List Section) (s : Symbol) (place : SymPlace) (k : ℕ) → function_section_by ts s place ≡ Some k → IsInCode ts s place k
in_code ts s places.Undefined k is = absurd (none-some k is)
in_code ts s places.Absolute k is = absurd (none-some k is)
in_code ts s (places.Inside m) k is =
    let parts = cond_some ((is_function s.kind && nat_lt 0 s.size) && option_map_or (λ (t : Section). is_code t.kind) (slice_get ts m) false) m k is in
    let halves = both_true (is_function s.kind && nat_lt 0 s.size) (option_map_or (λ (t : Section). is_code t.kind) (slice_get ts m) false) parts.0 in
    let first = both_true (is_function s.kind) (nat_lt 0 s.size) halves.0 in
    by parts.1 first.0 first.1 (slice_get ts m) refl halves.1
  where
    by : m ≡ k → is_function s.kind ≡ true → nat_lt 0 s.size ≡ true → (o : Option Section) → slice_get ts m ≡ o → option_map_or (λ (t : Section). is_code t.kind) o false ≡ true → IsInCode ts s (places.Inside m) k
    by same function long None there code = absurd (cc)
    by same function long (Some t) there code = record {
      t = t;
      there = ap (slice_get ts) (sym same) ∙ there;
      code = code_only t.kind code;
      inside = ap places.Inside same;
      function = function;
      some = grind (arith, nat_tests);
    }

-- ---- where extents end

pub record Fits (x : Extent) (t : Section) : Type 0 where
  pub ends : x.offset + x.size ≤ t.size
  pub filled : length t.bytes ≡ t.size
  pub small : t.size ≤ MAX_SECTION_SIZE

filled_code : (k : SecKind) (size : ℕ) → k ≡ kinds.Code → bytes_len k size ≡ size
filled_code k size e = ap (λ x. bytes_len x size) e

-- a section is well formed, and so small
pub valid_section : (os : List Object) (n k : ℕ) (t : Section) → All IsWellFormed os → section_at os n k ≡ Some t → IsWellFormedSection t
valid_section os n k t formed at = by (slice_get os n) refl
  where
    by : (o : Option Object) → slice_get os n ≡ o → IsWellFormedSection t
    by None none = absurd (none-some t (sym (ap (λ x. slice_get (option_map_or (λ (y : Object). y.sections) x ([])) k) none) ∙ at))
    by (Some o) there =
        let object : IsWellFormed o = all_at IsWellFormed os n o formed there in
        all_at IsWellFormedSection o.sections k t object.sections (ap (λ ts. slice_get ts k) (sym (object_at os n o there).sections) ∙ at)

pub few_bytes : (t : Section) → IsWellFormedSection t → length t.bytes ≤ MAX_SECTION_SIZE
few_bytes t valid = by t.kind valid.filled valid.small
  where
    by : (k : SecKind) → length t.bytes ≡ bytes_len k t.size → t.size ≤ MAX_SECTION_SIZE → length t.bytes ≤ MAX_SECTION_SIZE
    by kinds.Code filled small = omega arith
    by kinds.Const filled small = omega arith
    by kinds.Vars filled small = omega arith
    by kinds.Zero filled small = omega arith

pub bytes_of_code : (t : Section) → IsWellFormedSection t → t.kind ≡ kinds.Code → length t.bytes ≡ t.size
bytes_of_code t valid code = valid.filled ∙ filled_code t.kind t.size code

pub extent_fits : (os : List Object) → All IsWellFormed os → (x : Extent) (j : ℕ) (s : Symbol) (t : Section) → IsFunctionSymbol os x j s t → Fits x t
extent_fits os formed x j s t is =
    let found = object_of_symbol os x.object j s is.symbol in
    let o : Object = found.0 in
    let object : IsWellFormed o = all_at IsWellFormed os x.object o formed found.1.there in
    let at : slice_get o.sections x.section ≡ Some t = ap (λ ts. slice_get ts x.section) (sym found.1.sections) ∙ is.section in
    let valid : IsWellFormedSection t = all_at IsWellFormedSection o.sections x.section t object.sections at in
    let symbol : IsWellFormedSymbol o.sections s = all_at (IsWellFormedSymbol o.sections) o.symbols j s object.symbols found.2 in
    let says = covered x s is.covers in
    let placed : EndsIn o.sections s x.section = symbol.inside x.section says.place in
    let same : placed.0 ≡ t = same_Some placed.0 t (sym placed.1 ∙ at) in
    let ends : s.value + s.size ≤ t.size = subst (λ (u : Section). s.value + s.size ≤ u.size) same placed.2 in
    let value = says.value in
    let size = says.size in
    record {
      ends = omega arith;
      filled = valid.filled ∙ filled_code t.kind t.size is.code;
      small = valid.small;
    }
