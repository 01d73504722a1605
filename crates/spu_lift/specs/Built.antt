-- What is built of a program, part by part, from the tables. No clause of a public call cites this.
use Rattle.std.specs.Prelude.{◌≡◌, ℕ, ◌+◌, ◌*◌, ◌/◌, ◌^◌, ◌<◌, ◌≤◌, ◌⊎◌, ◌↔◌, Bool, true, not, List, [], ◌∷◌, ◌++◌, length, take, drop, map, filter, Option, Some, None, slice_get}
use Rattle.std.specs.List.{Contains}
use Rattle.spu_word.specs.declared.limits.TheConstants.{WORD_SIZE}
use Rattle.spu_word.specs.Bytes.{with_be}
use Rattle.spu_elf.specs.declared.objects.Section.{Section}
use Rattle.spu_elf.specs.declared.objects.Object.{Object}
use Rattle.spu_elf.specs.declared.objects.Reloc.{Reloc}
use Rattle.spu_lift.specs.declared.relocations.Spot.{Spot}
use Rattle.spu_lift.specs.declared.functions.FunctionSymbol.{FunctionSymbol}
use Rattle.spu_lift.specs.declared.functions.Place.{Place}
use Rattle.spu_lift.specs.declared.program.SymInst.{SymInst}
use Rattle.spu_lift.specs.declared.program.Function.{Function}
use Rattle.spu_lift.specs.declared.program.CodeSection.{CodeSection}
use Rattle.spu_lift.specs.declared.program.WordLabel.{WordLabel}
use Rattle.spu_lift.specs.declared.program.Part.{Part}
use Rattle.spu_lift.specs.StartCode.{start_code}
use Rattle.spu_lift.specs.WellFormed.{IsRising}
use Rattle.spu_lift.specs.Tables.{code_number, data_address, holds_code, holds_data, reloc_on, section_at, sections_before}
use Rattle.spu_lift.specs.Extents.{label_of}
use Rattle.spu_lift.specs.Meanings.{meaning_of}
use Rattle.spu_lift.specs.Lifted.{number_in, word_of_data}
use Rattle.spu_lift.specs.FunctionTables.{IsLiftedIn, symbol_name}
use Rattle.spu_lift.specs.TakenPlaces.{LabelsPlace, spot_in}

-- ---- functions

-- the place lies in a section of code that isn't empty
abbrev pub IsInCode : List Object → ℕ → ℕ → Type 0
IsInCode os n k = (t : Section) × (section_at os n k ≡ Some t) × (holds_code t ≡ true)

-- function n can be built: each of its words is lifted
pub record IsReady (os : List Object) (fs : List FunctionSymbol) (n : ℕ) (f : FunctionSymbol) : Type 0 where
  pub small : f.offset + f.size < 2 ^ 32
  pub code : IsInCode os f.object f.section
  pub lifts : (w : ℕ) → w < f.size / WORD_SIZE → (s : SymInst) × IsLiftedIn os fs n (spot_in f w) s

abbrev pub AreReady : List Object → List FunctionSymbol → Type 0
AreReady os fs = (i : ℕ) (f : FunctionSymbol) → slice_get fs i ≡ Some f → IsReady os fs (i + 1) f

-- the first words of function n are lifted
pub record AreInstructions (os : List Object) (fs : List FunctionSymbol) (n : ℕ) (f : FunctionSymbol) (words : ℕ) (code : List SymInst) : Type 0 where
  pub count : length code ≡ words
  pub each : (w : ℕ) (s : SymInst) → slice_get code w ≡ Some s → IsLiftedIn os fs n (spot_in f w) s

-- function n, with the places of its words that are taken
pub record IsFunctionBuilt (os : List Object) (fs : List FunctionSymbol) (is_taken : Place → Bool) (n : ℕ) (f : FunctionSymbol) (g : Function) : Type 0 where
  pub name : g.name ≡ symbol_name os f
  pub global : g.global ≡ not f.local
  pub section : g.section ≡ code_number os f.object f.section
  pub offset : g.offset ≡ f.offset
  pub code : AreInstructions os fs n f (f.size / WORD_SIZE) g.code
  pub rising : IsRising g.taken
  pub taken : (w : ℕ) → Contains g.taken w ↔ ((1 ≤ w) × (w < f.size / WORD_SIZE) × (is_taken (record { function = n; word = w }) ≡ true))

-- the start code and the first functions
pub record AreFunctionsBuilt (os : List Object) (fs : List FunctionSymbol) (is_taken : Place → Bool) (data_end entry first : ℕ) (gs : List Function) : Type 0 where
  pub start : slice_get gs 0 ≡ Some (start_code data_end entry)
  pub count : length gs ≡ first + 1
  pub each : (i : ℕ) (f : FunctionSymbol) (g : Function) → i < first → slice_get fs i ≡ Some f → slice_get gs (i + 1) ≡ Some g → IsFunctionBuilt os fs is_taken (i + 1) f g

-- ---- sections of code

abbrev pub code_section : Section → CodeSection
code_section t = record { name = t.name; size = t.size }

-- ---- data

-- the bytes with what stands in a word
abbrev pub filled_by : List Object → Spot → List ℕ → Option Reloc → List ℕ
filled_by os q bytes None = bytes
filled_by os q bytes (Some r) = with_be bytes q.offset (number_in (meaning_of os q.object r))

abbrev pub filled : List Object → Spot → List ℕ → List ℕ
filled os q bytes = filled_by os q bytes (reloc_on os q.object q.section q.offset)

-- the label of a word, where it has one, is put behind the others
abbrev pub label_at : Spot → Place → WordLabel
label_at q p = record { offset = q.offset; label = label_of p.function p.word }

abbrev pub AddsLabel : List Object → List FunctionSymbol → Spot → List WordLabel → List WordLabel → Type 0
AddsLabel os fs q old new = ((new ≡ old) × ((p : Place) → LabelsPlace os fs q p → ⊥)) ⊎ ((p : Place) × LabelsPlace os fs q p × (new ≡ old ++ label_at q p ∷ []))

-- the first words of section k of object n are filled in
pub record AreWordsFilled (os : List Object) (n k : ℕ) (old : List ℕ) (words : ℕ) (bytes : List ℕ) : Type 0 where
  pub count : length bytes ≡ length old
  pub done : (i : ℕ) → i < words → take WORD_SIZE (drop (WORD_SIZE * i) bytes) ≡ word_of_data os n old (WORD_SIZE * i) (reloc_on os n k (WORD_SIZE * i))
  pub rest : drop (WORD_SIZE * words) bytes ≡ drop (WORD_SIZE * words) old

-- the labels of the first words
abbrev pub word_spot : ℕ → ℕ → ℕ → Spot
word_spot n k w = record { object = n; section = k; offset = WORD_SIZE * w }

pub record IsWordOfLabel (os : List Object) (fs : List FunctionSymbol) (n k words : ℕ) (l : WordLabel) : Type 0 where
  pub w : ℕ
  pub inside : w < words
  pub p : Place
  pub labels : LabelsPlace os fs (word_spot n k w) p
  pub is : l ≡ label_at (word_spot n k w) p

pub record AreLabels (os : List Object) (fs : List FunctionSymbol) (n k words : ℕ) (ls : List WordLabel) : Type 0 where
  pub rising : IsRising (map (λ (l : WordLabel). l.offset) ls)
  pub each : (l : WordLabel) → Contains ls l → IsWordOfLabel os fs n k words l
  pub all : (w : ℕ) → w < words → (p : Place) → LabelsPlace os fs (word_spot n k w) p → (l : WordLabel) × Contains ls l × (l.offset ≡ WORD_SIZE * w)

pub record IsPartBuilt (os : List Object) (fs : List FunctionSymbol) (n k : ℕ) (t : Section) (at : ℕ) (part : Part) : Type 0 where
  pub address : part.address ≡ at
  pub size : part.size ≡ t.size
  pub words : AreWordsFilled os n k t.bytes (length t.bytes / WORD_SIZE) part.bytes
  pub labels : AreLabels os fs n k (length t.bytes / WORD_SIZE) part.labels

pub record HasPartBuilt (os : List Object) (fs : List FunctionSymbol) (parts : List Part) (n k : ℕ) (t : Section) : Type 0 where
  pub part : Part
  pub there : slice_get parts (length (filter holds_data (sections_before os n k))) ≡ Some part
  pub is : IsPartBuilt os fs n k t (data_address os n k t) part

-- the parts of the sections before section k of object n
pub record ArePartsBuilt (os : List Object) (fs : List FunctionSymbol) (n k : ℕ) (parts : List Part) : Type 0 where
  pub count : length parts ≡ length (filter holds_data (sections_before os n k))
  pub each : (m j : ℕ) (t : Section) → (m < n) ⊎ ((m ≡ n) × (j < k)) → section_at os m j ≡ Some t → holds_data t ≡ true → HasPartBuilt os fs parts m j t
