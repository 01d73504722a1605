-- Where functions lie: the extents of function symbols, in order, and the words of functions. Function symbols are those of the ELF
-- format; that two of one extent are one function, and how functions are numbered, is this project's own.
use Rattle.std.specs.Prelude.{◌≡◌, ℕ, zero, suc, ◌+◌, ◌*◌, ◌<◌, ◌≤◌, ◌⊎◌, Bool, true, false, ◌&&◌, ◌==◌, List, [], ◌∷◌, Option, Some, None, slice_get, filter, ℤ, pos}
use Rattle.std.specs.List.{Contains, find, list_any}
use Rattle.std.specs.Option.{option_or, option_map_or}
use Rattle.spu_word.specs.declared.limits.TheConstants.{WORD_SIZE}
use Rattle.spu_elf.specs.declared.objects.SecKind.TheVariants as kinds
use Rattle.spu_elf.specs.declared.objects.Section.{Section}
use Rattle.spu_elf.specs.declared.objects.SymKind.{SymKind}
use Rattle.spu_elf.specs.declared.objects.SymKind.TheVariants as names
use Rattle.spu_elf.specs.declared.objects.SymPlace.{SymPlace}
use Rattle.spu_elf.specs.declared.objects.SymPlace.TheVariants as places
use Rattle.spu_elf.specs.declared.objects.Symbol.{Symbol}
use Rattle.spu_elf.specs.declared.objects.Object.{Object}
use Rattle.spu_lift.specs.declared.program.Label.{Label}
use Rattle.spu_lift.specs.declared.program.Label.TheVariants.{Fun, Place}
use Rattle.spu_lift.specs.Tables.{section_at, symbol_at, symbols_of}

-- places are ordered by their first number, then by the second, and so on: those of code by object, section and offset
abbrev pub IsEarlier : List ℕ → List ℕ → Type 0
IsEarlier (m ∷ ms) (n ∷ ns) = (m < n) ⊎ ((m ≡ n) × IsEarlier ms ns)
IsEarlier ms ns = ⊥

-- ---- extents

-- a stretch of a section of an object
pub record Extent : Type 0 where
  pub object : ℕ
  pub section : ℕ
  pub offset : ℕ
  pub size : ℕ

abbrev pub place_of : Extent → List ℕ
place_of x = x.object ∷ x.section ∷ x.offset ∷ []

abbrev pub is_function : SymKind → Bool
is_function names.Function = true
is_function _ = false

abbrev pub is_inside : SymPlace → ℕ → Bool
is_inside (places.Inside m) k = m == k
is_inside places.Undefined k = false
is_inside places.Absolute k = false

-- a Function symbol of the extent's place and size
abbrev pub covers : Extent → Symbol → Bool
covers x s = (is_function s.kind && is_inside s.place x.section) && ((s.value == x.offset) && (s.size == x.size))

-- the functions are the Function symbols of nonzero size in sections of code: symbol j, in section t
pub record IsFunctionSymbol (os : List Object) (x : Extent) (j : ℕ) (s : Symbol) (t : Section) : Type 0 where
  pub symbol : symbol_at os x.object j ≡ Some s
  pub covers : covers x s ≡ true
  pub some : 1 ≤ x.size
  pub section : section_at os x.object x.section ≡ Some t
  pub code : t.kind ≡ kinds.Code

abbrev pub IsExtent : List Object → Extent → Type 0
IsExtent os x = (j : ℕ) × (s : Symbol) × (t : Section) × IsFunctionSymbol os x j s t

-- the first global symbol of the extent names the function, or the first one where none is global
abbrev pub covering : List Object → Extent → List Symbol
covering os x = filter (covers x) (symbols_of os x.object)

abbrev pub extent_name : List Object → Extent → List ℕ
extent_name os x = option_map_or (λ s. s.name) (option_or (find (λ s. s.global) (covering os x)) (slice_get (covering os x) 0)) ([])

abbrev pub is_global : List Object → Extent → Bool
is_global os x = list_any (λ s. s.global) (covering os x)

-- the extent holds an offset of section k of object n
pub record Holds (x : Extent) (n k offset : ℕ) : Type 0 where
  pub object : x.object ≡ n
  pub section : x.section ≡ k
  pub from : x.offset ≤ offset
  pub to : offset < x.offset + x.size

-- word j of the function of extent x is at this offset of section k of object n; an offset may lie outside the section
pub record IsWordAt (os : List Object) (x : Extent) (j n k : ℕ) (offset : ℤ) : Type 0 where
  pub extent : IsExtent os x
  pub object : x.object ≡ n
  pub section : x.section ≡ k
  pub inside : WORD_SIZE * j < x.size
  pub at : offset ≡ pos (x.offset + WORD_SIZE * j)

-- ---- numbers

abbrev pub AreRising : List Extent → Type 0
AreRising [] = Unit {0}
AreRising (x ∷ []) = Unit {0}
AreRising (x ∷ y ∷ xs) = IsEarlier (place_of x) (place_of y) × AreRising (y ∷ xs)

-- the extents in order of their places, each once
pub record IsNumbering (os : List Object) (fs : List Extent) : Type 0 where
  pub rising : AreRising fs
  pub extents : (x : Extent) → Contains fs x → IsExtent os x
  pub all : (x : Extent) → IsExtent os x → Contains fs x

-- the extent of function f: they are numbered from 1 on
abbrev pub extent_of : List Extent → ℕ → Option Extent
extent_of fs zero = None
extent_of fs (suc i) = slice_get fs i

-- the label of a word of a function
abbrev pub label_of : ℕ → ℕ → Label
label_of f zero = Fun f
label_of f (suc i) = Place f (suc i)
