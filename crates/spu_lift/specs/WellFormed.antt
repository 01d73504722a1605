-- When a program is well formed. Every list of objects that is lifted gives such a program, and whatever takes a program rests on
-- this alone. The operands of an instruction are those of the SPU ABI's relocations on it; the rest is this project's own.
use Rattle.std.specs.Prelude.{◌≡◌, ◌≢◌, ℕ, ◌+◌, ◌*◌, ◌%◌, ◌^◌, ◌<◌, ◌≤◌, ◌⊎◌, Bool, true, false, List, [], ◌∷◌, ◌++◌, length, All, Some, slice_get, codes, pos}
use Rattle.std.specs.List.{Contains}
use Rattle.spu_word.specs.declared.limits.TheConstants.{DATA_START, MAX_CODE_SECTIONS, MAX_DATA_END, MAX_OBJECTS, MAX_SECTION_SIZE, MAX_SYMBOLS, QUAD_SIZE, WORD_SIZE}
use Rattle.spu_isa.specs.declared.operation.Kind.{Kind}
use Rattle.spu_isa.specs.declared.operation.Kind.TheVariants as kind
use Rattle.spu_isa.specs.declared.operation.Op.{Op}
use Rattle.spu_isa.specs.declared.operation.Op.TheVariants as op
use Rattle.spu_isa.specs.Table.{InRange, row_of}
use Rattle.spu_elf.specs.Validity.{IsName}
use Rattle.spu_lift.specs.declared.program.TheConstants.{MAX_FUNCTIONS}
use Rattle.spu_lift.specs.declared.program.Label.{Label}
use Rattle.spu_lift.specs.declared.program.Label.TheVariants.{Fun, Place, Link}
use Rattle.spu_lift.specs.declared.program.Operand.{Operand}
use Rattle.spu_lift.specs.declared.program.Operand.TheVariants as operand
use Rattle.spu_lift.specs.declared.program.SymInst.{SymInst}
use Rattle.spu_lift.specs.declared.program.Function.{Function}
use Rattle.spu_lift.specs.declared.program.CodeSection.{CodeSection}
use Rattle.spu_lift.specs.declared.program.WordLabel.{WordLabel}
use Rattle.spu_lift.specs.declared.program.Part.{Part}
use Rattle.spu_lift.specs.declared.program.Ear.{Ear}
use Rattle.spu_lift.specs.declared.program.Global_.{Global_}
use Rattle.spu_lift.specs.declared.program.Prog.{Prog}
use Rattle.spu_lift.specs.Places.{instruction_at, taken_places, kind_of, link_register, IsPlace}
use Rattle.spu_lift.specs.StartCode.{start_code}

-- each number is greater than the one before it
abbrev pub IsRising : List ℕ → Type 0
IsRising [] = Unit {0}
IsRising (n ∷ []) = Unit {0}
IsRising (n ∷ m ∷ ms) = (n < m) × IsRising (m ∷ ms)

-- ---- functions

-- a function that can be called: any but the start code
abbrev pub IsCallee : Prog → ℕ → Type 0
IsCallee p g = (g ≢ 0) × (g < length p.functions)

-- a function and a place that an instruction or data name are taken
abbrev pub IsTakenTarget : Prog → Label → Type 0
IsTakenTarget p (Fun f) = Contains p.taken f
IsTakenTarget p (Place f i) = Contains (taken_places p f) i
IsTakenTarget p (Link f i) = ⊥

-- whether an operation's field can stand for a place of code or a number of data alone: direct branches and calls, and the loads and
-- stores relative to their own place
abbrev pub is_direct : Kind → Bool
is_direct kind.Branch = true
is_direct kind.Call = true
is_direct _ = false

abbrev pub needs_operand : Op → Bool
needs_operand op.Lqr = true
needs_operand op.Stqr = true
needs_operand o = is_direct (row_of o).kind

-- whether it can stand for a part of an address, and for a number
abbrev pub takes_label : Op → Bool
takes_label op.Ila = true
takes_label op.Ilhu = true
takes_label op.Iohl = true
takes_label _ = false

abbrev pub takes_number : Op → Bool
takes_number op.Lqa = true
takes_number op.Stqa = true
takes_number op.Lqr = true
takes_number op.Stqr = true
takes_number o = takes_label o

abbrev pub IsOperand : Prog → ℕ → SymInst → Operand → Type 0
IsOperand p f x operand.Plain = needs_operand x.inst.op ≡ false
IsOperand p f x (operand.Number n) = (takes_number x.inst.op ≡ true) × (n < 2 ^ 32)
IsOperand p f x (operand.Address l) = (takes_label x.inst.op ≡ true) × IsTakenTarget p l
IsOperand p f x (operand.Call g) = (kind_of x ≡ kind.Call) × IsCallee p g
IsOperand p f x (operand.Jump g) = (kind_of x ≡ kind.Branch) × IsCallee p g × (g ≢ f)
IsOperand p f x (operand.Branch i) = (kind_of x ≡ kind.Branch) × IsPlace p f i

-- an instruction of function f: a call leaves its link in the link register, and a field for which something else stands is 0
pub record IsInstruction (p : Prog) (f : ℕ) (x : SymInst) : Type 0 where
  pub range : InRange x.inst
  pub stands : IsOperand p f x x.operand
  pub empty : x.operand ≢ operand.Plain → x.inst.imm ≡ pos 0
  pub call : kind_of x ≡ kind.Call → x.inst.rt ≡ link_register
  pub pointer_call : kind_of x ≡ kind.PointerCall → x.inst.rt ≡ link_register

-- a function lies in its section
pub record IsFunction (p : Prog) (g : Function) : Type 0 where
  pub named : IsName g.name
  pub some : 1 ≤ length g.code
  pub section : CodeSection
  pub there : slice_get p.code g.section ≡ Some section
  pub aligned : g.offset % WORD_SIZE ≡ 0
  pub fits : g.offset + WORD_SIZE * length g.code ≤ section.size

-- two functions share no word
abbrev pub AreApart : Function → Function → Type 0
AreApart g h = g.section ≡ h.section → (g.offset + WORD_SIZE * length g.code ≤ h.offset) ⊎ (h.offset + WORD_SIZE * length h.code ≤ g.offset)

-- ---- data

-- each section of data begins where the one before has ended, or behind it, and the last one ends at most there
abbrev pub AreInOrder : ℕ → List Part → ℕ → Type 0
AreInOrder from [] end = from ≤ end
AreInOrder from (part ∷ parts) end = (from ≤ part.address) × AreInOrder (part.address + part.size) parts end

pub record IsPart (p : Prog) (part : Part) : Type 0 where
  pub filled : (length part.bytes ≡ part.size) ⊎ (part.bytes ≡ [])
  pub rising : (k : ℕ) (l m : WordLabel) → slice_get part.labels k ≡ Some l → slice_get part.labels (k + 1) ≡ Some m → l.offset < m.offset
  pub aligned : (l : WordLabel) → Contains part.labels l → l.offset % WORD_SIZE ≡ 0
  pub inside : (l : WordLabel) → Contains part.labels l → l.offset + WORD_SIZE ≤ part.size
  pub taken : (l : WordLabel) → Contains part.labels l → IsTakenTarget p l.label

-- the quadword of a named area lies in a section of data
pub record IsEar (p : Prog) (ear : Ear) : Type 0 where
  pub aligned : ear.address % QUAD_SIZE ≡ 0
  pub part : Part
  pub there : Contains p.parts part
  pub from : part.address ≤ ear.address
  pub to : ear.address + QUAD_SIZE ≤ part.address + part.size

-- a global symbol of data lies in a section of data, and doesn't have the name that tells where an executable's file lies
pub record IsGlobal (p : Prog) (g : Global_) : Type 0 where
  pub named : IsName g.name
  pub free : g.name ≢ codes "__image_ea"
  pub part : Part
  pub there : Contains p.parts part
  pub from : part.address ≤ g.address
  pub to : g.address + g.size ≤ part.address + part.size

abbrev pub AreDistinct : List Global_ → Type 0
AreDistinct globals = (i j : ℕ) (g h : Global_) → slice_get globals i ≡ Some g → slice_get globals j ≡ Some h → g.name ≡ h.name → i ≡ j

-- the global symbol of a named area has the area's name behind `_EAR_`
pub record IsEarOf (g : Global_) (ear : Ear) : Type 0 where
  pub name : g.name ≡ codes "_EAR_" ++ ear.name
  pub some : ear.name ≢ []
  pub address : g.address ≡ ear.address

-- the named areas are those of some of the global symbols, in their order: of the ones in sections named `.toe`
abbrev pub AreEars : List Global_ → List Ear → Type 0
AreEars globals [] = Unit {0}
AreEars [] (ear ∷ ears) = ⊥
AreEars (g ∷ globals) (ear ∷ ears) = (IsEarOf g ear × AreEars globals ears) ⊎ AreEars globals (ear ∷ ears)

-- ---- programs

pub record IsWellFormed (p : Prog) : Type 0 where
  -- counts
  pub functions : length p.functions ≤ MAX_FUNCTIONS
  pub sections : length p.code ≤ MAX_CODE_SECTIONS
  pub small : All (λ (c : CodeSection). c.size ≤ MAX_SECTION_SIZE) p.code
  pub filled : All (λ (c : CodeSection). 1 ≤ c.size) p.code
  pub few_globals : length p.globals ≤ MAX_OBJECTS * MAX_SYMBOLS
  -- functions: the start code is function 0, and the others lie in their sections, apart from each other
  pub start : slice_get p.functions 0 ≡ Some (start_code p.data_end p.entry)
  pub entry : IsCallee p p.entry
  pub each : (f : ℕ) (g : Function) → f ≢ 0 → slice_get p.functions f ≡ Some g → IsFunction p g
  pub apart : (f h : ℕ) (g k : Function) → f ≢ 0 → h ≢ 0 → f ≢ h → slice_get p.functions f ≡ Some g → slice_get p.functions h ≡ Some k → AreApart g k
  pub instructions : (f i : ℕ) (x : SymInst) → instruction_at p f i ≡ Some x → IsInstruction p f x
  -- what is taken
  pub taken : (g : ℕ) → Contains p.taken g → IsCallee p g
  pub taken_rising : IsRising p.taken
  pub places : (f i : ℕ) → Contains (taken_places p f) i → (i ≢ 0) × IsPlace p f i
  pub places_rising : (f : ℕ) → IsRising (taken_places p f)
  -- data
  pub data_aligned : p.data_end % QUAD_SIZE ≡ 0
  pub data_end : p.data_end ≤ MAX_DATA_END
  pub ordered : AreInOrder DATA_START p.parts p.data_end
  pub parts : (part : Part) → Contains p.parts part → IsPart p part
  pub globals : (g : Global_) → Contains p.globals g → IsGlobal p g
  pub distinct : AreDistinct p.globals
  pub ears : (ear : Ear) → Contains p.ears ear → IsEar p ear
  pub ears_are_global : AreEars p.globals p.ears
