-- The object of a text, or the fault of its first faulty line, by SPU Assembly Language. Each line is cut into statements;
-- those that aren't faulty make a history, and the history makes the object.
use Rattle.std.specs.Prelude.{◌≡◌, ℕ, ◌+◌, ◌<◌, ◌≤◌, ◌⊎◌, List, [], ◌∷◌, length, map, fold, Some, Result, Ok, Err}
use Rattle.spu_word.specs.declared.limits.TheConstants.{MAX_FILE_SIZE}
use Rattle.spu_text.specs.declared.lexemes.TextFault.{TextFault}
use Rattle.spu_text.specs.declared.lexemes.TextFault.TheVariants as texts
use Rattle.spu_text.specs.Texts.{lines_of}
use Rattle.spu_text.specs.Lexemes.{Lexeme, lexemes_of}
use Rattle.spu_elf.specs.declared.objects.Object.{Object}
use Rattle.spu_elf.specs.Validity.{IsValid}
use Rattle.spu_asm.specs.declared.faults.AsmKind.{AsmKind}
use Rattle.spu_asm.specs.declared.faults.AsmKind.TheVariants as asm
use Rattle.spu_asm.specs.declared.faults.AsmFault.{AsmFault}
use Rattle.spu_asm.specs.declared.faults.AsmFault.TheVariants as faults
use Rattle.spu_asm.specs.Values.{parted}
use Rattle.spu_asm.specs.StatementReading.{statement_of}
use Rattle.spu_asm.specs.Faults.{Fault, Run, nothing_yet, after, first_fault}
use Rattle.spu_asm.specs.Objects.{object_of}

abbrev pub fault : ℕ → AsmKind → Fault
fault line kind = record { line = line; kind = kind }

-- ---- lines

-- the fault of a line that has no lexemes
abbrev pub noted : TextFault → Run → Run
noted (texts.NotAscii n) r = record r { faults = fault n asm.NotAscii ∷ r.faults }
noted (texts.LineTooLong n) r = record r { faults = fault n asm.LineTooLong ∷ r.faults }
noted (texts.BadNumber n) r = record r { faults = fault n asm.BadNumber ∷ r.faults }
noted texts.OutOfMemory r = r

-- the statements of a line stand between `;`
abbrev pub statements_after : ℕ → Run → List (List Lexeme) → Run
statements_after line r ss = fold after r (map (statement_of line) ss)

abbrev pub line_after : ℕ → Run → Result (List Lexeme) TextFault → Run
line_after line r (Ok ts) = statements_after line r (parted 59 ts)
line_after line r (Err f) = noted f r

abbrev pub lines_after : ℕ → Run → List (List ℕ) → Run
lines_after line r [] = r
lines_after line r (l ∷ ls) = lines_after (line + 1) (line_after line r (lexemes_of line l)) ls

-- what a text comes to: the history of its statements, and all its faults
abbrev pub run_of : List ℕ → Run
run_of text = lines_after 1 nothing_yet (lines_of text)

-- ---- texts

pub record Assembles (text : List ℕ) (o : Object) : Type 0 where
  pub short : length text ≤ MAX_FILE_SIZE
  pub clean : (run_of text).faults ≡ []
  pub object : o ≡ object_of (run_of text).history
  pub valid : IsValid o

-- A10 at line 0: the text is too long
pub record IsTooLong (text : List ℕ) (f : Fault) : Type 0 where
  pub long : MAX_FILE_SIZE < length text
  pub is : f ≡ fault 0 asm.TooLarge

-- the least fault of the first faulty line
pub record IsFaulty (text : List ℕ) (f : Fault) : Type 0 where
  pub short : length text ≤ MAX_FILE_SIZE
  pub first : first_fault (run_of text).faults ≡ Some f

-- A10 at the last line: the object has no file
pub record HasNoFile (text : List ℕ) (f : Fault) : Type 0 where
  pub short : length text ≤ MAX_FILE_SIZE
  pub clean : (run_of text).faults ≡ []
  pub invalid : IsValid (object_of (run_of text).history) → ⊥
  pub is : f ≡ fault (length (lines_of text)) asm.TooLarge

abbrev pub IsFaultOf : List ℕ → Fault → Type 0
IsFaultOf text f = IsTooLong text f ⊎ (IsFaulty text f ⊎ HasNoFile text f)

-- ---- what `assemble` answers

abbrev pub Answers : Result Object AsmFault → List ℕ → Type 0
Answers (Ok o) text = Assembles text o
Answers (Err (faults.Fault kind line)) text = IsFaultOf text (fault line kind)
Answers (Err faults.OutOfMemory) text = Unit {0}
