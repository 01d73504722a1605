-- What the tables of functions hold. No clause of a public call cites this.
use Rattle.std.specs.Prelude.{◌≡◌, ℕ, ◌+◌, ◌-◌, ◌*◌, ◌%◌, ◌^◌, ◌<◌, ◌≤◌, ◌⊎◌, Bool, true, false, not, ◌&&◌, ◌||◌, ◌==◌, nat_lt, nat_le, List, [], ◌∷◌, length, Option, None, Some, ℤ, pos, slice_get, slice_index_or}
use Rattle.std.specs.Option.{option_map_or}
use Rattle.spu_word.specs.declared.limits.TheConstants.{MAX_OBJECTS, MAX_SYMBOLS, WORD_SIZE}
use Rattle.spu_elf.specs.declared.objects.Section.{Section}
use Rattle.spu_elf.specs.declared.objects.Symbol.{Symbol}
use Rattle.spu_elf.specs.declared.objects.Object.{Object}
use Rattle.spu_lift.specs.declared.relocations.Spot.{Spot}
use Rattle.spu_lift.specs.declared.functions.FunctionSymbol.{FunctionSymbol}
use Rattle.spu_lift.specs.declared.functions.Place.{Place}
use Rattle.spu_isa.specs.declared.instruction.Inst.{Inst}
use Rattle.spu_isa.specs.declared.operation.Op.TheVariants as op
use Rattle.spu_isa.specs.Table.{row_of}
use Rattle.spu_isa.specs.declared.operation.Kind.{Kind}
use Rattle.spu_isa.specs.declared.operation.Kind.TheVariants as kind
use Rattle.spu_lift.specs.declared.lifting.Lifting.{Lifting}
use Rattle.spu_lift.specs.declared.program.SymInst.{SymInst}
use Rattle.spu_lift.specs.declared.program.Operand.{Operand}
use Rattle.spu_lift.specs.declared.program.Operand.TheVariants as operand
use Rattle.spu_lift.specs.declared.tables.Meaning.{Meaning}
use Rattle.spu_lift.specs.declared.tables.Meaning.TheVariants.{Number, Code, Unknown}
use Rattle.spu_lift.specs.Tables.{symbol_at}
use Rattle.spu_lift.specs.Meanings.{field_of, is_hint}
use Rattle.spu_lift.specs.StartCode.{of_register, symbolic}
use Rattle.spu_lift.specs.Lifted.{operand_to, with_operand}
use Rattle.spu_lift.specs.Extents.{Extent, IsEarlier, IsExtent, IsFunctionSymbol, extent_name, is_global}
use Rattle.spu_lift.specs.LiftFaults.{IsShared}
use Rattle.spu_lift.specs.LookUps.{AreTables, IsWordOf}

-- ---- one symbol of a function

abbrev pub extent_in : FunctionSymbol → Extent
extent_in f = record { object = f.object; section = f.section; offset = f.offset; size = f.size }

abbrev pub is_same : FunctionSymbol → FunctionSymbol → Bool
is_same f g = (f.object == g.object) && ((f.section == g.section) && ((f.offset == g.offset) && (f.size == g.size)))

abbrev pub is_in : FunctionSymbol → ℕ → ℕ → Bool
is_in f n k = (f.object == n) && (f.section == k)

abbrev pub is_before : FunctionSymbol → ℕ → ℕ → Bool
is_before f n k = nat_lt f.object n || ((f.object == n) && nat_lt f.section k)

-- it begins at the place or before it
abbrev pub begins_by : FunctionSymbol → Spot → Bool
begins_by f q = is_before f q.object q.section || (is_in f q.object q.section && nat_le f.offset q.offset)

abbrev pub start_of : FunctionSymbol → Spot
start_of f = record { object = f.object; section = f.section; offset = f.offset }

abbrev pub meets : FunctionSymbol → FunctionSymbol → Bool
meets f g = is_in g f.object f.section && (nat_lt g.offset (f.offset + f.size) && not (is_same f g))

-- ---- lists of them

-- each begins where those behind it begin, or before that
abbrev pub AreOrdered : List FunctionSymbol → Type 0
AreOrdered fs = (i j : ℕ) (d : FunctionSymbol) → i ≤ j → j < length fs → begins_by (slice_index_or fs i d) (start_of (slice_index_or fs j d)) ≡ true

-- each ends before those behind it in its section begin
abbrev pub AreApart : List FunctionSymbol → Type 0
AreApart fs = (i j : ℕ) (d : FunctionSymbol) → i < j → j < length fs → is_in (slice_index_or fs j d) (slice_index_or fs i d).object (slice_index_or fs i d).section ≡ true
    → (slice_index_or fs i d).offset + (slice_index_or fs i d).size ≤ (slice_index_or fs j d).offset

-- they begin at multiples of 4
abbrev pub AreAligned : List FunctionSymbol → Type 0
AreAligned fs = (i : ℕ) (d : FunctionSymbol) → i < length fs → (slice_index_or fs i d).offset % WORD_SIZE ≡ 0

-- a place is a word of a function, which are numbered from 1 on
pub record IsPlaceIn (fs : List FunctionSymbol) (q : Spot) (p : Place) : Type 0 where
  pub from : 1 ≤ p.function
  pub f : FunctionSymbol
  pub there : slice_get fs (p.function - 1) ≡ Some f
  pub section : is_in f q.object q.section ≡ true
  pub at : q.offset ≡ f.offset + WORD_SIZE * p.word
  pub inside : WORD_SIZE * p.word < f.size

-- what is known of functions once none is misaligned and none overlap
pub record HasPlaces (fs : List FunctionSymbol) : Type 0 where
  pub ordered : AreOrdered fs
  pub apart : AreApart fs
  pub aligned : AreAligned fs
  pub few : length fs < 2 ^ 32
  pub small : (i : ℕ) (d : FunctionSymbol) → i < length fs → (slice_index_or fs i d).offset + (slice_index_or fs i d).size < 2 ^ 32

-- a place at an offset of section k of object n, which may lie outside it
pub record IsPlaceFor (fs : List FunctionSymbol) (n k : ℕ) (offset : ℤ) (p : Place) : Type 0 where
  pub at : ℕ
  pub is : offset ≡ pos at
  pub place : IsPlaceIn fs (record { object = n; section = k; offset = at }) p

abbrev pub IsPlaceMeant : List FunctionSymbol → Meaning → Place → Type 0
IsPlaceMeant fs (Number v) p = ⊥
IsPlaceMeant fs (Code n k offset) p = IsPlaceFor fs n k offset p
IsPlaceMeant fs Unknown p = ⊥

-- where a direct branch or call of function f may go
pub record GoesTo (fs : List FunctionSymbol) (what : Kind) (f : ℕ) (m : Meaning) : Type 0 where
  pub p : Place
  pub place : IsPlaceMeant fs m p
  pub may : (p.word ≡ 0) ⊎ ((what ≡ kind.Branch) × (p.function ≡ f))

abbrev pub MayGoTo : List FunctionSymbol → Kind → ℕ → Option Meaning → Type 0
MayGoTo fs what f None = ⊥
MayGoTo fs what f (Some m) = GoesTo fs what f m

-- what stands for the field of an instruction of function f
pub record IsPlaceOperand (fs : List FunctionSymbol) (f : ℕ) (what : Kind) (m : Meaning) (o : Operand) : Type 0 where
  pub p : Place
  pub place : IsPlaceMeant fs m p
  pub is : o ≡ operand_to what f p.function p.word

abbrev pub IsOperandIn : List FunctionSymbol → ℕ → Kind → Option Meaning → Operand → Type 0
IsOperandIn fs f what None o = o ≡ operand.Plain
IsOperandIn fs f what (Some (Number v)) o = o ≡ operand.Number v
IsOperandIn fs f what (Some (Code n k offset)) o = IsPlaceOperand fs f what (Code n k offset) o
IsOperandIn fs f what (Some Unknown) o = ⊥

-- the instruction at a place is lifted so, in function f; a hint as an `lnop`
abbrev pub IsLiftedBy : Bool → List Object → List FunctionSymbol → ℕ → Spot → Inst → SymInst → Type 0
IsLiftedBy true os fs f q x s = s ≡ symbolic (of_register op.Lnop 0 (pos 0)) operand.Plain
IsLiftedBy false os fs f q x s = (o : Operand) × IsOperandIn fs f (row_of x.op).kind (field_of os q.object q.section q.offset x) o × (s ≡ with_operand x o)

pub record IsLiftedIn (os : List Object) (fs : List FunctionSymbol) (f : ℕ) (q : Spot) (s : SymInst) : Type 0 where
  pub x : Inst
  pub word : IsWordOf os q x
  pub lifted : IsLiftedBy (is_hint x.op) os fs f q x s

-- ---- the functions of objects

-- symbols are ordered by place and size; of those of one extent global ones come before local ones, and earlier ones before later ones
abbrev pub rank_of : Bool → ℕ
rank_of false = 0
rank_of true = 1

abbrev pub extent_key : FunctionSymbol → List ℕ
extent_key f = f.object ∷ f.section ∷ f.offset ∷ f.size ∷ []

abbrev pub symbol_key : FunctionSymbol → List ℕ
symbol_key f = f.object ∷ f.section ∷ f.offset ∷ f.size ∷ rank_of f.local ∷ f.symbol ∷ []

-- none is before one in front of it
abbrev pub AreSorted : List FunctionSymbol → Type 0
AreSorted fs = (i j : ℕ) (f g : FunctionSymbol) → i ≤ j → slice_get fs i ≡ Some f → slice_get fs j ≡ Some g → IsEarlier (symbol_key g) (symbol_key f) → ⊥

-- each has a greater place, or the same place and a greater size, than those in front of it
abbrev pub AreRisingExtents : List FunctionSymbol → Type 0
AreRisingExtents fs = (i j : ℕ) (f g : FunctionSymbol) → i < j → slice_get fs i ≡ Some f → slice_get fs j ≡ Some g → IsEarlier (extent_key f) (extent_key g)

-- it is symbol s of its object, of a function in section t
pub record IsSymbolOf (os : List Object) (f : FunctionSymbol) (s : Symbol) (t : Section) : Type 0 where
  pub function : IsFunctionSymbol os (extent_in f) f.symbol s t
  pub local : f.local ≡ not s.global

pub record HasSymbol (os : List Object) (f : FunctionSymbol) : Type 0 where
  pub s : Symbol
  pub t : Section
  pub is : IsSymbolOf os f s t

abbrev pub function_symbol : Extent → ℕ → Symbol → FunctionSymbol
function_symbol x j s = record { object = x.object; section = x.section; offset = x.offset; size = x.size; local = not s.global; symbol = j }

-- all symbols of functions, in order
pub record AreSymbolsOf (os : List Object) (fs : List FunctionSymbol) : Type 0 where
  pub sorted : AreSorted fs
  pub few : length fs ≤ MAX_OBJECTS * MAX_SYMBOLS
  pub each : (i : ℕ) (f : FunctionSymbol) → slice_get fs i ≡ Some f → HasSymbol os f
  pub all : (x : Extent) (j : ℕ) (s : Symbol) (t : Section) → IsFunctionSymbol os x j s t → (i : ℕ) × (slice_get fs i ≡ Some (function_symbol x j s))

-- the name of a function's symbol
abbrev pub symbol_name : List Object → FunctionSymbol → List ℕ
symbol_name os f = option_map_or (λ s. s.name) (symbol_at os f.object f.symbol) ([])

pub record IsNamed (os : List Object) (f : FunctionSymbol) : Type 0 where
  pub name : symbol_name os f ≡ extent_name os (extent_in f)
  pub global : not f.local ≡ is_global os (extent_in f)

pub record HasFunction (fs : List FunctionSymbol) (x : Extent) : Type 0 where
  pub i : ℕ
  pub f : FunctionSymbol
  pub there : slice_get fs i ≡ Some f
  pub is : extent_in f ≡ x

-- the functions in order of places and sizes, each once and by the symbol that names it
pub record AreFunctions (os : List Object) (fs : List FunctionSymbol) : Type 0 where
  pub rising : AreRisingExtents fs
  pub few : length fs ≤ MAX_OBJECTS * MAX_SYMBOLS
  pub each : (i : ℕ) (f : FunctionSymbol) → slice_get fs i ≡ Some f → HasSymbol os f
  pub named : (i : ℕ) (f : FunctionSymbol) → slice_get fs i ≡ Some f → IsNamed os f
  pub all : (x : Extent) → IsExtent os x → HasFunction fs x

-- the first place that functions of two extents share
pub record IsFirstShared (os : List Object) (q : Spot) : Type 0 where
  pub shared : (w : ℕ) → IsShared os q.object q.section q.offset w
  pub first : (n k offset w : ℕ) → IsEarlier (n ∷ k ∷ offset ∷ []) (q.object ∷ q.section ∷ q.offset ∷ []) → IsShared os n k offset w → ⊥

-- tables and functions of the same objects
pub record IsLifting (l : Lifting) : Type 0 where
  pub tables : AreTables l.tables
  pub symbols : AreSymbolsOf l.tables.objects.now l.symbols.sorted.items
  pub functions : AreFunctions l.tables.objects.now l.functions.sorted.items
