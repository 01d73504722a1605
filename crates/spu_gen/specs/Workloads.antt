-- Generated workloads: for a seed and a count, the object of `main` and of so many functions beside it, each of which sends a number and
-- calls two others where there are so many. (This project's own; the relocations' numbers are those of the SPU ABI.)
use Rattle.std.specs.Prelude.{◌≡◌, ℕ, zero, suc, ◌+◌, ◌*◌, ◌/◌, ◌%◌, ◌^◌, ◌==◌, nat_le, if◌then◌else◌, List, [], ◌∷◌, ◌++◌, length, map, replicate, slice_get, Some, codes, true, ℤ, pos, negsuc}
use Rattle.std.specs.List.{flat_map, range_with_len}
use Rattle.std.specs.Fmt.{decimal}
use Rattle.spu_word.specs.declared.limits.TheConstants.{QUAD_SIZE, WORD_SIZE}
use Rattle.spu_word.specs.Bytes.{be_digits}
use Rattle.spu_isa.specs.declared.operation.Op.{Op}
use Rattle.spu_isa.specs.declared.operation.Op.TheVariants as op
use Rattle.spu_isa.specs.declared.instruction.Inst.{Inst}
use Rattle.spu_isa.specs.Decoding.{decoded}
use Rattle.spu_elf.specs.declared.objects.Section.{Section}
use Rattle.spu_elf.specs.declared.objects.SecKind.TheVariants as kinds
use Rattle.spu_elf.specs.declared.objects.Symbol.{Symbol}
use Rattle.spu_elf.specs.declared.objects.SymKind.TheVariants as names
use Rattle.spu_elf.specs.declared.objects.SymPlace.TheVariants as places
use Rattle.spu_elf.specs.declared.objects.Reloc.{Reloc}
use Rattle.spu_elf.specs.declared.objects.Object.{Object}
use Rattle.spu_gen.specs.declared.lines.Line.{Line}
use Rattle.spu_gen.specs.declared.lines.Line.TheVariants.{KeepLink, KeepPointer, Enter, Load, Send, Nop, Call, Address, CallPointer, Leave, TakeLink, Return}
use Rattle.spu_gen.specs.declared.lines.TheConstants.{OUTBOX}
use Rattle.spu_gen.specs.declared.workloads.TheConstants.{R_SPU_ADDR18, R_SPU_REL16}

-- ---- the row of numbers

abbrev pub next : ℕ → ℕ
next x = (1664525 * x + 1013904223) % 2 ^ 32

-- the number of each function; the seed is that of `main`, which has none
abbrev pub draw : ℕ → ℕ → ℕ
draw seed zero = seed
draw seed (suc i) = next (draw seed i)

-- what a function with this number sends, and how many `nop`s it has
abbrev pub sent : ℕ → ℕ
sent x = x / 2 ^ 17

abbrev pub padding : ℕ → ℕ
padding x = x / 2 ^ 8 % 256

-- ---- the code of functions

-- a frame of 32 bytes is begun, and left
abbrev pub enters : List Line
enters = KeepLink ∷ KeepPointer ∷ Enter ∷ []

abbrev pub leaves : List Line
leaves = Leave ∷ TakeLink ∷ Return ∷ []

abbrev pub main_code : List Line
main_code = enters ++ Address 1 ∷ CallPointer ∷ leaves

-- a call of a function, where there is one of this index
abbrev pub call_of : ℕ → ℕ → List Line
call_of count i = if nat_le i count then Call i ∷ [] else []

abbrev pub sender_code : ℕ → ℕ → ℕ → List Line
sender_code count i x =
    enters ++ Load x ∷ Send ∷ replicate (padding x) Nop ++ call_of count (2 * i) ++ call_of count (2 * i + 1) ++ leaves

-- the code of function i, whose number is this; function 0 is `main`
abbrev pub code_of : ℕ → ℕ → ℕ → List Line
code_of count i x = if i == 0 then main_code else sender_code count i x

-- ---- the instructions of lines

abbrev pub instruction : Op → ℕ → ℕ → ℤ → Inst
instruction o rt ra imm = record { op = o; rt = rt; ra = ra; rb = 0; rc = 0; imm = imm }

-- a field is 0 where the line names a function; offsets of loads and stores count quadwords
abbrev pub bare : Line → Inst
bare KeepLink = instruction op.Stqd 0 1 (pos 1)
bare KeepPointer = instruction op.Stqd 1 1 (negsuc 1)
bare Enter = instruction op.Ai 1 1 (negsuc 31)
bare (Load x) = instruction op.Il 3 0 (pos (sent x))
bare Send = instruction op.Wrch 3 OUTBOX (pos 0)
bare Nop = instruction op.Nop 0 0 (pos 0)
bare (Call i) = instruction op.Brsl 0 0 (pos 0)
bare (Address i) = instruction op.Ila 2 0 (pos 0)
bare CallPointer = instruction op.Bisl 0 2 (pos 0)
bare Leave = instruction op.Ai 1 1 (pos 32)
bare TakeLink = instruction op.Lqd 0 1 (pos 1)
bare Return = instruction op.Bi 0 0 (pos 0)

-- ---- the object

-- the bytes are the words of these lines, one after another
pub record AreWords (lines : List Line) (bytes : List ℕ) : Type 0 where
  pub words : List ℕ
  pub code : map decoded words ≡ map (λ x. Some (bare x)) lines
  pub digits : bytes ≡ flat_map be_digits words

abbrev pub section_name : ℕ → List ℕ
section_name i = if i == 0 then codes ".text" else codes ".text.f" ++ decimal i

abbrev pub symbol_name : ℕ → List ℕ
symbol_name i = if i == 0 then codes "main" else codes "f" ++ decimal i

-- the section of function i, which has these lines
pub record IsSectionOf (i : ℕ) (lines : List Line) (t : Section) : Type 0 where
  pub name : t.name ≡ section_name i
  pub kind : t.kind ≡ kinds.Code
  pub align : t.align ≡ QUAD_SIZE
  pub size : t.size ≡ WORD_SIZE * length lines
  pub words : AreWords lines t.bytes

-- its symbol
abbrev pub symbol_of : ℕ → List Line → Symbol
symbol_of i lines =
    record { name = symbol_name i; value = 0; size = WORD_SIZE * length lines; kind = names.Function; global = true; place = places.Inside i }

-- the relocation of a line at an offset in section i, and those of its lines from an offset on
abbrev pub relocation_of : ℕ → ℕ → Line → List Reloc
relocation_of i offset (Call g) = record { section = i; offset = offset; symbol = g; kind = R_SPU_REL16; addend = pos 0 } ∷ []
relocation_of i offset (Address g) = record { section = i; offset = offset; symbol = g; kind = R_SPU_ADDR18; addend = pos 0 } ∷ []
relocation_of i offset _ = []

abbrev pub relocations : ℕ → ℕ → List Line → List Reloc
relocations i offset [] = []
relocations i offset (x ∷ xs) = relocation_of i offset x ++ relocations i (offset + WORD_SIZE) xs

-- the lines of function i
abbrev pub lines_of : ℕ → ℕ → ℕ → List Line
lines_of seed count i = code_of count i (draw seed i)

-- a section, a symbol and relocations for each of the first n functions
pub record HasFunctions (seed count n : ℕ) (o : Object) : Type 0 where
  pub size : length o.sections ≡ n
  pub sections : (i : ℕ) (t : Section) → slice_get o.sections i ≡ Some t → IsSectionOf i (lines_of seed count i) t
  pub symbols : o.symbols ≡ map (λ i. symbol_of i (lines_of seed count i)) (range_with_len 0 n)
  pub relocs : o.relocs ≡ flat_map (λ i. relocations i 0 (lines_of seed count i)) (range_with_len 0 n)

-- `main`, and so many beside it
abbrev pub IsWorkload : ℕ → ℕ → Object → Type 0
IsWorkload seed count o = HasFunctions seed count (count + 1) o
