-- The faults of statements behind others, by number, and the first faulty line.
use Rattle.std.specs.Prelude.{ℕ, ◌+◌, ◌%◌, ◌==◌, ◌&&◌, ◌||◌, Bool, true, false, not, nat_lt, if◌then◌else◌, List, [], ◌∷◌, length, Option, Some, None, is_some, is_none, Result, Ok, Err}
use Rattle.spu_elf.specs.declared.objects.SecKind.{SecKind}
use Rattle.spu_elf.specs.declared.objects.SecKind.TheVariants as kinds
use Rattle.spu_asm.specs.declared.faults.AsmKind.{AsmKind}
use Rattle.spu_asm.specs.declared.faults.AsmKind.TheVariants as asm
use Rattle.spu_asm.specs.Statements.{Name, Effect, Stmt, instruction, content, align, ends_here, has_size, common}
use Rattle.spu_asm.specs.Histories.{History, Spot, same, is_among, gap}
use Rattle.spu_asm.specs.Tables.{Rows, value_in}
use Rattle.spu_asm.specs.Summaries.{Sighting, Cursor, summary, size_at, spot_at, kind_here, target_kind_at, target_place_at, new_bytes, enter}

-- the number in a fault's name
abbrev pub number_of : AsmKind → ℕ
number_of asm.NotAscii = 1
number_of asm.LineTooLong = 2
number_of asm.BadNumber = 3
number_of asm.UnknownMnemonic = 4
number_of asm.BadOperand = 5
number_of asm.Range = 6
number_of asm.DuplicateLabel = 7
number_of asm.BadDirective = 8
number_of asm.SectionTooLarge = 9
number_of asm.TooLarge = 10

-- the fault of the lesser number
abbrev pub lesser : Option AsmKind → Option AsmKind → Option AsmKind
lesser None other = other
lesser (Some a) None = Some a
lesser (Some a) (Some b) = if nat_lt (number_of b) (number_of a) then Some b else Some a

abbrev pub when_ : Bool → AsmKind → Option AsmKind
when_ b k = if b then Some k else None

-- ---- A8

abbrev pub is_code : SecKind → Bool
is_code kinds.Code = true
is_code _ = false

abbrev pub is_zero : SecKind → Bool
is_zero kinds.Zero = true
is_zero _ = false

-- a padding in code begins at a multiple of 4
abbrev pub is_misplaced : SecKind → ℕ → ℕ → Bool
is_misplaced kind at step = is_code kind && not (at % 4 == 0) && not (gap step at == 0)

-- ---- one statement

-- a label that is there already, or stands twice
abbrev pub clashes_at : Rows Sighting → List Name → Bool
clashes_at t [] = false
clashes_at t (l ∷ ls) = is_some (spot_at t l) || is_among ls l || clashes_at t ls

-- a common symbol is a label
abbrev pub clashes_by_at : Rows Sighting → List Name → Effect → Bool
clashes_by_at t ls (common n size step) = is_some (spot_at t n) || is_among ls n
clashes_by_at t ls _ = false

abbrev pub is_in : Name → Option Spot → Bool
is_in home None = false
is_in home (Some s) = same s.section home

abbrev pub is_here_at : Cursor → List Name → Name → Bool
is_here_at c ls n = is_among ls n || is_in c.current (spot_at c.symbols n)

abbrev pub is_against_rules_at : Cursor → List Name → Effect → Bool
is_against_rules_at c ls (instruction w ns rs) = not (is_code (kind_here c))
is_against_rules_at c ls (content bs rs) = is_zero (kind_here c)
is_against_rules_at c ls (align step) = is_misplaced (kind_here c) (size_at c.sections c.current) step
is_against_rules_at c ls (ends_here n) = not (is_here_at c ls n)
is_against_rules_at c ls (has_size n size) = not (is_among ls n) && is_none (spot_at c.symbols n)
is_against_rules_at c ls (common n size step) = is_none (value_in c.locals n) || is_misplaced (target_kind_at c (common n size step)) (target_place_at c (common n size step)) step
is_against_rules_at c ls _ = false

abbrev pub is_too_large_at : Cursor → Effect → Bool
is_too_large_at c e = nat_lt 262144 (target_place_at c e + length (new_bytes c e))

abbrev pub effect_fault_at : Cursor → List Name → Effect → Option AsmKind
effect_fault_at c ls e = lesser (when_ (clashes_by_at c.symbols ls e) asm.DuplicateLabel) (lesser (when_ (is_against_rules_at c ls e) asm.BadDirective) (when_ (is_too_large_at c e) asm.SectionTooLarge))

abbrev pub read_fault_at : Cursor → List Name → Result Effect AsmKind → Option AsmKind
read_fault_at c ls (Ok e) = effect_fault_at c ls e
read_fault_at c ls (Err k) = Some k

-- the least fault of a statement behind these
abbrev pub fault_at : Cursor → Stmt → Option AsmKind
fault_at c s = lesser (when_ (clashes_at c.symbols s.labels) asm.DuplicateLabel) (read_fault_at c s.labels s.effect)

-- ---- all statements

pub record Fault : Type 0 where
  pub line : ℕ
  pub kind : AsmKind

pub record Run : Type 0 where
  pub history : History
  pub faults : List Fault

-- a faulty statement has no effect on others
abbrev pub accepted : Run → Stmt → Result Effect AsmKind → Run
accepted r s (Ok e) = record r { history = enter r.history s.labels e ∷ r.history }
accepted r s (Err k) = r

abbrev pub judged : Run → Stmt → Option AsmKind → Run
judged r s None = accepted r s s.effect
judged r s (Some k) = record r { faults = record { line = s.line; kind = k } ∷ r.faults }

abbrev pub after : Run → Stmt → Run
after r s = judged r s (fault_at (summary r.history) s)

abbrev pub nothing_yet : Run
nothing_yet = record { history = []; faults = [] }

-- ---- the first faulty line

abbrev pub comes_before : Fault → Fault → Bool
comes_before f g = nat_lt f.line g.line || (f.line == g.line && nat_lt (number_of f.kind) (number_of g.kind))

abbrev pub earlier : Fault → Option Fault → Fault
earlier f None = f
earlier f (Some g) = if comes_before g f then g else f

-- the least fault of the first faulty line
abbrev pub first_fault : List Fault → Option Fault
first_fault [] = None
first_fault (f ∷ fs) = Some (earlier f (first_fault fs))
