-- The places whose addresses objects take, by their functions. No clause of a public call cites this.
use Rattle.std.specs.Prelude.{◌≡◌, ℕ, ◌+◌, ◌*◌, ◌/◌, ◌<◌, ◌⊎◌, ◌↔◌, Bool, true, false, ◌&&◌, ◌==◌, List, length, Option, Some, None, slice_get}
use Rattle.std.specs.List.{list_any}
use Rattle.spu_word.specs.declared.limits.TheConstants.{WORD_SIZE}
use Rattle.spu_elf.specs.declared.objects.Section.{Section}
use Rattle.spu_elf.specs.declared.objects.Reloc.{Reloc}
use Rattle.spu_elf.specs.declared.objects.Object.{Object}
use Rattle.spu_lift.specs.declared.relocations.Spot.{Spot}
use Rattle.spu_lift.specs.declared.functions.FunctionSymbol.{FunctionSymbol}
use Rattle.spu_lift.specs.declared.functions.Place.{Place}
use Rattle.spu_lift.specs.declared.program.Label.{Label}
use Rattle.spu_lift.specs.declared.program.Label.TheVariants as labels
use Rattle.spu_lift.specs.declared.program.Operand.{Operand}
use Rattle.spu_lift.specs.declared.program.Operand.TheVariants as operand
use Rattle.spu_lift.specs.declared.program.SymInst.{SymInst}
use Rattle.spu_lift.specs.declared.taken.Taken.{Taken}
use Rattle.spu_lift.specs.Tables.{is_code, reloc_on}
use Rattle.spu_lift.specs.Extents.{label_of}
use Rattle.spu_lift.specs.Meanings.{meaning_of}
use Rattle.spu_lift.specs.FunctionTables.{IsLiftedIn, IsPlaceMeant}

abbrev pub same_place : Place → Place → Bool
same_place p q = (p.function == q.function) && (p.word == q.word)

-- the place is among those taken
abbrev pub takes : Taken → Place → Bool
takes t p = list_any (same_place p) t.places.keys

-- a word of a function
abbrev pub spot_in : FunctionSymbol → ℕ → Spot
spot_in f w = record { object = f.object; section = f.section; offset = f.offset + WORD_SIZE * w }

-- the place of a label, and of an operand that is its address
abbrev pub place_of : Label → Option Place
place_of (labels.Fun f) = Some (record { function = f; word = 0 })
place_of (labels.Place f w) = Some (record { function = f; word = w })
place_of (labels.Link f w) = None

abbrev pub place_named : Operand → Option Place
place_named (operand.Address l) = place_of l
place_named operand.Plain = None
place_named (operand.Number v) = None
place_named (operand.Call f) = None
place_named (operand.Jump f) = None
place_named (operand.Branch w) = None

-- the instruction at a place of function f takes the address of p
pub record NamesPlace (os : List Object) (fs : List FunctionSymbol) (f : ℕ) (q : Spot) (p : Place) : Type 0 where
  pub x : SymInst
  pub lifted : IsLiftedIn os fs f q x
  pub names : x.operand ≡ operand.Address (label_of p.function p.word)

-- a word of a function does: functions are numbered from 1 on
abbrev pub IsNamedIn : List Object → List FunctionSymbol → ℕ → FunctionSymbol → Place → Type 0
IsNamedIn os fs f g p = (w : ℕ) × (w < g.size / WORD_SIZE) × NamesPlace os fs f (spot_in g w) p

pub record IsNamedBy (os : List Object) (fs : List FunctionSymbol) (i : ℕ) (p : Place) : Type 0 where
  pub f : FunctionSymbol
  pub there : slice_get fs i ≡ Some f
  pub named : IsNamedIn os fs (i + 1) f p

abbrev pub IsTakenInCode : List Object → List FunctionSymbol → Place → Type 0
IsTakenInCode os fs p = (i : ℕ) × (i < length fs) × IsNamedBy os fs i p

-- a word of data at a place stands for the address of p
pub record LabelsPlace (os : List Object) (fs : List FunctionSymbol) (q : Spot) (p : Place) : Type 0 where
  pub r : Reloc
  pub reloc : reloc_on os q.object q.section q.offset ≡ Some r
  pub place : IsPlaceMeant fs (meaning_of os q.object r) p

-- a word of a section of data does
abbrev pub IsLabeledIn : List Object → List FunctionSymbol → ℕ → ℕ → Section → Place → Type 0
IsLabeledIn os fs n k t p = (w : ℕ) × (w < length t.bytes / WORD_SIZE) × LabelsPlace os fs (record { object = n; section = k; offset = WORD_SIZE * w }) p

pub record IsLabeledBy (os : List Object) (fs : List FunctionSymbol) (n : ℕ) (ts : List Section) (k : ℕ) (p : Place) : Type 0 where
  pub t : Section
  pub there : slice_get ts k ≡ Some t
  pub holds_data : is_code t.kind ≡ false
  pub labeled : IsLabeledIn os fs n k t p

abbrev pub IsLabeledOf : List Object → List FunctionSymbol → ℕ → List Section → Place → Type 0
IsLabeledOf os fs n ts p = (k : ℕ) × (k < length ts) × IsLabeledBy os fs n ts k p

pub record IsLabeledInObject (os : List Object) (fs : List FunctionSymbol) (n : ℕ) (p : Place) : Type 0 where
  pub o : Object
  pub there : slice_get os n ≡ Some o
  pub labeled : IsLabeledOf os fs n o.sections p

abbrev pub IsTakenInData : List Object → List FunctionSymbol → Place → Type 0
IsTakenInData os fs p = (n : ℕ) × (n < length os) × IsLabeledInObject os fs n p

abbrev pub IsTakenPlace : List Object → List FunctionSymbol → Place → Type 0
IsTakenPlace os fs p = IsTakenInCode os fs p ⊎ IsTakenInData os fs p

-- such places are taken besides the others
abbrev pub Adds : (Place → Type 0) → Taken → Taken → Type 0
Adds such old new = (p : Place) → (takes new p ≡ true) ↔ ((takes old p ≡ true) ⊎ such p)

-- exactly the places that objects take are taken
abbrev pub TakesPlaces : List Object → List FunctionSymbol → Taken → Type 0
TakesPlaces os fs t = (p : Place) → (takes t p ≡ true) ↔ IsTakenPlace os fs p
