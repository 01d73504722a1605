-- The lexemes of a line: its tokens with their texts, by SPU Assembly Language.
use Rattle.std.specs.Prelude.{◌≡◌, ℕ, zero, suc, ◌-◌, ◌==◌, not, nat_lt, if◌then◌else◌, List, [], ◌∷◌, length, take, map, Option, Some, None, option_map, Result, Ok, Err}
use Rattle.std.specs.List.{list_all}
use Rattle.spu_word.specs.declared.limits.TheConstants.{MAX_LINE_SIZE}
use Rattle.spu_text.specs.declared.lexemes.TokenKind.{TokenKind}
use Rattle.spu_text.specs.declared.lexemes.TokenKind.TheVariants as kinds
use Rattle.spu_text.specs.declared.lexemes.TextFault.{TextFault}
use Rattle.spu_text.specs.declared.lexemes.TextFault.TheVariants as faults
use Rattle.spu_text.specs.declared.line.Piece.{Piece}
use Rattle.spu_text.specs.declared.line.Piece.TheVariants as pieces
use Rattle.spu_text.specs.Texts.{is_space, is_source_byte, piece_of, content}
use Rattle.spu_text.specs.Reads.{Fails}

pub data Lexeme : Type 0 where
  word : List ℕ → Lexeme
  number : ℕ → Lexeme
  -- with its quotes
  quoted : List ℕ → Lexeme
  -- any other byte, also the `;` between statements
  mark : ℕ → Lexeme

-- the lexeme of this kind and text
abbrev pub lexeme : TokenKind → List ℕ → Lexeme
lexeme kinds.Word text = word text
lexeme (kinds.Number n) text = number n
lexeme kinds.Quoted text = quoted text
lexeme (kinds.Mark m) text = mark m
lexeme kinds.EndOfStatement text = mark 59

abbrev pub Lexemes : Type 0
Lexemes = Option (List Lexeme)

-- a lexeme in front of others, nothing where the word is no number
abbrev pub led_by : Option TokenKind → List ℕ → Lexemes → Lexemes
led_by None text ts = None
led_by (Some k) text ts = option_map (λ (more : List Lexeme). lexeme k text ∷ more) ts

-- The lexemes of the rest of a line, nothing where a word is no number. Its first `inside` bytes belong to the one before.
abbrev pub lexemes : ℕ → List ℕ → Lexemes
lexemes inside [] = Some ([])
lexemes (suc inside) (b ∷ bs) = lexemes inside bs
lexemes zero (b ∷ bs) =
    if b == 35 then Some ([])
    else (if is_space b then lexemes 0 bs
    else led_by (piece_of (b ∷ bs)).kind (take (piece_of (b ∷ bs)).size (b ∷ bs)) (lexemes ((piece_of (b ∷ bs)).size - 1) bs))

abbrev pub read_or : TextFault → Lexemes → Result (List Lexeme) TextFault
read_or fault (Some ts) = Ok ts
read_or fault None = Err fault

-- the lexemes of the line with this number, which has its end
unfoldable pub lexemes_of : ℕ → List ℕ → Result (List Lexeme) TextFault
lexemes_of n line =
    if not (list_all is_source_byte (content line)) then Err (faults.NotAscii n)
    else (if nat_lt MAX_LINE_SIZE (length (content line)) then Err (faults.LineTooLong n)
    else read_or (faults.BadNumber n) (lexemes 0 (content line)))

-- ---- what the code gives

abbrev pub lexeme_of : Piece → Lexeme
lexeme_of (pieces.Word text) = word text.now
lexeme_of (pieces.Number n) = number n
lexeme_of (pieces.Quoted text) = quoted text.now
lexeme_of (pieces.Mark m) = mark m

abbrev pub are_lexemes : List Piece → List Lexeme
are_lexemes ps = map lexeme_of ps

-- what was read, unless memory ran out
abbrev pub Reads : {A : Type 0} → Result A TextFault → List Piece → Result (List Lexeme) TextFault → Type 0
Reads (Ok u) ps read = read ≡ Ok (are_lexemes ps)
Reads (Err f) ps read = Fails f read
