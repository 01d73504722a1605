-- Values in operands and directives, by SPU Assembly Language: a number with an optional `-`, `.` or a symbol, each of the
-- last two alone or with a number added or taken away. Operands stand between commas.
use Rattle.std.specs.Prelude.{ℕ, ◌==◌, ◌&&◌, Bool, true, false, not, if◌then◌else◌, List, [], ◌∷◌, Option, Some, None, codes}
use Rattle.std.specs.Str.{bytes_eq}
use Rattle.spu_text.specs.Lexemes.{Lexeme, word, number, mark}
use Rattle.spu_asm.specs.declared.values.Offset.{Offset}
use Rattle.spu_asm.specs.declared.values.Value.{Value as CodeValue}
use Rattle.spu_asm.specs.declared.values.Value.TheVariants as code
use Rattle.spu_asm.specs.Names.{Name, is_symbol}

-- a number, the statement's own place, or a symbol; with what is added
pub data Value : Type 0 where
  plain : Offset → Value
  here : Offset → Value
  symbol : Name → Offset → Value

abbrev pub offset : Bool → ℕ → Offset
offset negative size = record { negative = negative; size = size }

unfoldable pub word_value : Name → Offset → Option Value
word_value w n = if bytes_eq w (codes ".") then Some (here n) else (if is_symbol w then Some (symbol w n) else None)

unfoldable pub value_of : List Lexeme → Option Value
value_of (number n ∷ []) = Some (plain (offset false n))
value_of (mark m ∷ number n ∷ []) = if m == 45 then Some (plain (offset true n)) else None
value_of (word w ∷ []) = word_value w (offset false 0)
value_of (word w ∷ mark m ∷ number n ∷ []) =
    if m == 43 then word_value w (offset false n)
    else (if m == 45 then word_value w (offset true n) else None)
value_of _ = None

-- a number from 0 on
abbrev pub natural : Offset → Option ℕ
natural n = if n.negative && not (n.size == 0) then None else Some n.size

abbrev pub natural_of : Option Value → Option ℕ
natural_of (Some (plain n)) = natural n
natural_of _ = None

-- ---- parts

abbrev pub is_mark : ℕ → Lexeme → Bool
is_mark c (mark m) = m == c
is_mark c _ = false

abbrev pub onto : Lexeme → List (List Lexeme) → List (List Lexeme)
onto t [] = (t ∷ []) ∷ []
onto t (o ∷ os) = (t ∷ o) ∷ os

-- what stands between marks of one sort
abbrev pub parted : ℕ → List Lexeme → List (List Lexeme)
parted c [] = [] ∷ []
parted c (t ∷ ts) = if is_mark c t then [] ∷ parted c ts else onto t (parted c ts)

-- there are no operands where nothing stands
abbrev pub operands_of : List Lexeme → List (List Lexeme)
operands_of [] = []
operands_of (t ∷ ts) = parted 44 (t ∷ ts)

-- ---- what the code gives

abbrev pub value_in : CodeValue → Value
value_in (code.Number n) = plain n
value_in (code.Here n) = here n
value_in (code.Symbol w n) = symbol w.now n
