-- From the lexemes of a statement to what it does, by SPU Assembly Language: labels, then nothing, a directive or an
-- instruction. Of the faults that the lexemes have by themselves the least counts: A4 UnknownMnemonic, A5 BadOperand,
-- A6 Range, A8 BadDirective.
use Rattle.std.specs.Prelude.{ℕ, ◌==◌, ◌&&◌, Bool, true, false, not, if◌then◌else◌, List, [], ◌∷◌, ◌++◌, slice_index, map, find, Option, Some, None, is_some, Ok, Err, codes}
use Rattle.std.specs.List.{list_all}
use Rattle.std.specs.Str.{bytes_eq}
use Rattle.spu_isa.specs.Table.{row_of}
use Rattle.spu_isa.specs.Decoding.{all_ops}
use Rattle.spu_isa.specs.declared.operation.Op.{Op}
use Rattle.spu_reloc.specs.Fields.{kind_on}
use Rattle.spu_text.specs.Lexemes.{Lexeme, word, quoted, mark}
use Rattle.spu_asm.specs.declared.faults.AsmKind.TheVariants as faults
use Rattle.spu_asm.specs.declared.directives.Directive.{Directive}
use Rattle.spu_asm.specs.Names.{Name, is_symbol}
use Rattle.spu_asm.specs.Values.{operands_of}
use Rattle.spu_asm.specs.Quotes.{text_of}
use Rattle.spu_asm.specs.Encoding.{word_of}
use Rattle.spu_asm.specs.Operands.{Target, Coded, Reading, coded}
use Rattle.spu_asm.specs.Statements.{Stmt, nothing, instruction, relocations_by, listed}
use Rattle.spu_asm.specs.Contents.{Meaning}
use Rattle.spu_asm.specs.Directives.{meaning_of, directive_of}

-- ---- labels

abbrev pub label_of : List Lexeme → Option Name
label_of (word w ∷ mark m ∷ ts) = if m == 58 && is_symbol w then Some w else None
label_of _ = None

abbrev pub labels_of : List Lexeme → List Name
labels_of (word w ∷ mark m ∷ ts) = if m == 58 && is_symbol w then w ∷ labels_of ts else []
labels_of _ = []

abbrev pub behind_labels : List Lexeme → List Lexeme
behind_labels (word w ∷ mark m ∷ ts) = if m == 58 && is_symbol w then behind_labels ts else word w ∷ mark m ∷ ts
behind_labels ts = ts

-- ---- what stands behind them

-- the symbols in the operands
abbrev pub names_of : Coded → List Name
names_of c = listed c.place ++ map (λ (t : Target). t.name) (listed c.target)

abbrev pub instructed : Op → Reading → Meaning
instructed o (Ok c) = Ok (instruction (word_of c.inst) (names_of c) (relocations_by (kind_on o) c.target))
instructed o (Err k) = Err k

unfoldable pub op_of : Name → Option Op
op_of w = find (λ (o : Op). bytes_eq (row_of o).name w) all_ops

abbrev pub operation : Option Op → List Lexeme → Meaning
operation (Some o) ts = instructed o (coded o (operands_of ts))
operation None ts = Err faults.UnknownMnemonic

abbrev pub directed : Option Directive → List Lexeme → Meaning
directed (Some d) ts = meaning_of d ts
directed None ts = Err faults.BadDirective

-- a word that begins with `.` names a directive, any other an instruction
abbrev pub said : List Lexeme → Meaning
said [] = Ok nothing
said (word w ∷ ts) =
    if bytes_eq w (codes ".") then Err faults.UnknownMnemonic
    else (if slice_index w 0 == 46 then directed (directive_of w) ts
    else operation (op_of w) ts)
said _ = Err faults.UnknownMnemonic

-- ---- quotes

-- each quote is closed, and each escape is known
abbrev pub has_sound_quotes : Lexeme → Bool
has_sound_quotes (mark m) = not (m == 34)
has_sound_quotes (quoted q) = is_some (text_of q)
has_sound_quotes _ = true

-- no statement has a fault above A8 by itself
abbrev pub with_quotes : Bool → Meaning → Meaning
with_quotes true m = m
with_quotes false (Ok e) = Err faults.BadDirective
with_quotes false (Err k) = Err k

-- ---- statements

abbrev pub statement_of : ℕ → List Lexeme → Stmt
statement_of line ts = record { line = line; labels = labels_of ts; effect = with_quotes (list_all has_sound_quotes ts) (said (behind_labels ts)) }
