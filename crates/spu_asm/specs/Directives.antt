-- What directives do, by SPU Assembly Language: their names, one line each, and what each does with its operands. Operands
-- that it doesn't take are A8.
use Rattle.std.specs.Prelude.{ℕ, ◌^◌, ◌==◌, ◌&&◌, ◌||◌, Bool, false, nat_le, if◌then◌else◌, List, [], ◌∷◌, ◌++◌, take, find, Option, Some, None, option_map, Ok, Err, codes}
use Rattle.std.specs.List.{list_any}
use Rattle.std.specs.Str.{bytes_eq}
use Rattle.spu_elf.specs.declared.objects.SecKind.{SecKind}
use Rattle.spu_elf.specs.declared.objects.SecKind.TheVariants as kinds
use Rattle.spu_elf.specs.declared.objects.SymKind.TheVariants as symbols
use Rattle.spu_text.specs.Lexemes.{Lexeme, word, number, quoted, mark}
use Rattle.spu_asm.specs.Names.{Name, is_symbol}
use Rattle.spu_asm.specs.Values.{value_of, natural_of, parted}
use Rattle.spu_asm.specs.Quotes.{text_of}
use Rattle.spu_asm.specs.Statements.{Effect, nothing, content, space, align, section, exports, may_be_common, has_kind, ends_here, has_size, common}
use Rattle.spu_asm.specs.Contents.{Meaning, values_of}
use Rattle.spu_asm.specs.declared.faults.AsmKind.TheVariants.{BadDirective}
use Rattle.spu_asm.specs.declared.directives.Directive.{Directive}
use Rattle.spu_asm.specs.declared.directives.Directive.TheVariants as directive

-- ---- operands

abbrev pub bad : Meaning
bad = Err BadDirective

abbrev pub only_if : Bool → Effect → Meaning
only_if b e = if b then Ok e else bad

abbrev pub of_some : {A : Type 0} → (A → Meaning) → Option A → Meaning
of_some f (Some x) = f x
of_some f None = bad

-- no operands
abbrev pub alone : Effect → List Lexeme → Meaning
alone e [] = Ok e
alone e (t ∷ ts) = bad

-- `symbol`
abbrev pub one_symbol : (Name → Effect) → List Lexeme → Meaning
one_symbol f (word s ∷ []) = only_if (is_symbol s) (f s)
one_symbol f _ = bad

-- a number from 0 on
abbrev pub one_number : (ℕ → Meaning) → List Lexeme → Meaning
one_number f ts = of_some f (natural_of (value_of ts))

-- quoted text, and these bytes behind it
abbrev pub one_text : List ℕ → List Lexeme → Meaning
one_text end (quoted q ∷ []) = of_some (λ (t : List ℕ). Ok (content (t ++ end) ([]))) (text_of q)
one_text end _ = bad

-- a symbol, a comma, and what stands behind it
abbrev pub of_symbol : (Name → List Lexeme → Meaning) → List Lexeme → Meaning
of_symbol f (word s ∷ mark c ∷ ts) = if c == 44 && is_symbol s then f s ts else bad
of_symbol f _ = bad

-- `@function` or `@object`
abbrev pub kind_by : Name → List Lexeme → Meaning
kind_by s (word k ∷ []) =
    if bytes_eq k (codes "@function") then Ok (has_kind s symbols.Function)
    else only_if (bytes_eq k (codes "@object")) (has_kind s symbols.Object)
kind_by s _ = bad

-- `.-symbol`, or a number
abbrev pub size_by : Name → List Lexeme → Meaning
size_by s (word h ∷ mark m ∷ word t ∷ []) = only_if (m == 45 && bytes_eq h (codes ".") && bytes_eq s t) (ends_here s)
size_by s ts = one_number (λ n. Ok (has_size s n)) ts

abbrev pub align_by : ℕ → Meaning
align_by n = only_if (nat_le n 7) (align (2 ^ n))

unfoldable pub is_step : ℕ → Bool
is_step a = a == 1 || a == 2 || a == 4 || a == 8 || a == 16 || a == 32 || a == 64 || a == 128

-- a size and a step
abbrev pub common_by : Name → List (List Lexeme) → Meaning
common_by s (n ∷ a ∷ []) = one_number (λ size. one_number (λ step. only_if (is_step step) (common s size step)) a) n
common_by s _ = bad

-- ---- sections

unfoldable pub kind_by_name : List ℕ → SecKind
kind_by_name w =
    if bytes_eq (take 5 w) (codes ".text") then kinds.Code
    else (if bytes_eq (take 5 w) (codes ".data") then kinds.Vars
    else (if bytes_eq (take 4 w) (codes ".bss") then kinds.Zero
    else kinds.Const))

-- by the letters `x` and `w`
abbrev pub kind_by_flags : List ℕ → SecKind
kind_by_flags f = if list_any (λ c. c == 120) f then kinds.Code else (if list_any (λ c. c == 119) f then kinds.Vars else kinds.Const)

-- whether `@nobits` is among the words and numbers behind the flags, each after a comma
abbrev pub is_nobits : List Lexeme → Option Bool
is_nobits [] = Some false
is_nobits (mark c ∷ word w ∷ ts) = if c == 44 then option_map (λ (b : Bool). bytes_eq w (codes "@nobits") || b) (is_nobits ts) else None
is_nobits (mark c ∷ number n ∷ ts) = if c == 44 then is_nobits ts else None
is_nobits _ = None

abbrev pub flagged : Name → Option Bool → Option (List ℕ) → Meaning
flagged s (Some nobits) (Some f) = Ok (section s (if nobits then kinds.Zero else kind_by_flags f))
flagged s _ _ = bad

abbrev pub section_of : List Lexeme → Meaning
section_of (word s ∷ []) = Ok (section s (kind_by_name s))
section_of (word s ∷ mark c ∷ quoted f ∷ ts) = if c == 44 then flagged s (is_nobits ts) (text_of f) else bad
section_of _ = bad

-- ---- directives

-- the name of a directive, and what it does with its operands
abbrev pub row_of : Directive → List ℕ × (List Lexeme → Meaning)
row_of directive.Text = (codes ".text", alone (section (codes ".text") kinds.Code))
row_of directive.Data = (codes ".data", alone (section (codes ".data") kinds.Vars))
row_of directive.Bss = (codes ".bss", alone (section (codes ".bss") kinds.Zero))
row_of directive.Section = (codes ".section", section_of)
row_of directive.Global = (codes ".global", one_symbol exports)
row_of directive.Globl = (codes ".globl", one_symbol exports)
row_of directive.Type = (codes ".type", of_symbol kind_by)
row_of directive.Size = (codes ".size", of_symbol size_by)
row_of directive.Align = (codes ".align", one_number align_by)
row_of directive.P2align = (codes ".p2align", one_number align_by)
row_of directive.Byte = (codes ".byte", values_of 1)
row_of directive.Hword = (codes ".hword", values_of 2)
row_of directive.Short = (codes ".short", values_of 2)
row_of directive.Word = (codes ".word", values_of 4)
row_of directive.Long = (codes ".long", values_of 4)
row_of directive.Int = (codes ".int", values_of 4)
row_of directive.Quad = (codes ".quad", values_of 8)
row_of directive.Octa = (codes ".octa", values_of 16)
row_of directive.Ascii = (codes ".ascii", one_text ([]))
row_of directive.Asciz = (codes ".asciz", one_text (0 ∷ []))
row_of directive.String = (codes ".string", one_text (0 ∷ []))
row_of directive.Space = (codes ".space", one_number (λ n. Ok (space n)))
row_of directive.Skip = (codes ".skip", one_number (λ n. Ok (space n)))
row_of directive.Zero = (codes ".zero", one_number (λ n. Ok (space n)))
row_of directive.Local = (codes ".local", one_symbol may_be_common)
row_of directive.Comm = (codes ".comm", of_symbol (λ s ts. common_by s (parted 44 ts)))
row_of directive.File = (codes ".file", λ ts. Ok nothing)
row_of directive.Ident = (codes ".ident", λ ts. Ok nothing)

abbrev pub name_of : Directive → List ℕ
name_of d = (row_of d).0

unfoldable pub meaning_of : Directive → List Lexeme → Meaning
meaning_of d ts = (row_of d).1 ts

abbrev pub all_directives : List Directive
all_directives =
    directive.Text ∷ directive.Data ∷ directive.Bss ∷ directive.Section ∷ directive.Global ∷ directive.Globl ∷ directive.Type
    ∷ directive.Size ∷ directive.Align ∷ directive.P2align ∷ directive.Byte ∷ directive.Hword ∷ directive.Short ∷ directive.Word
    ∷ directive.Long ∷ directive.Int ∷ directive.Quad ∷ directive.Octa ∷ directive.Ascii ∷ directive.Asciz ∷ directive.String
    ∷ directive.Space ∷ directive.Skip ∷ directive.Zero ∷ directive.Local ∷ directive.Comm ∷ directive.File ∷ directive.Ident ∷ []

unfoldable pub directive_of : Name → Option Directive
directive_of w = find (λ (d : Directive). bytes_eq (name_of d) w) all_directives
