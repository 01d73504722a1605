-- The tokens of a text, on lists of bytes.
use Rattle.std.specs.Prelude.{ℕ, zero, suc, ◌+◌, ◌-◌, ◌^◌, ◌*◌, ◌==◌, ◌&&◌, ◌||◌, Bool, true, false, not, nat_le, nat_lt, if◌then◌else◌, List, [], ◌∷◌, ◌++◌, length, take, drop, min, slice_index, Option, Some, None, option_map, Result, Ok, Err}
use Rattle.std.specs.List.{prefix_len, list_all}
use Rattle.std.specs.Str.Parse.{digits_value}
use Rattle.std.specs.Char.{digit_value, is_ascii_digit, is_ascii_alphanumeric}
use Rattle.spu_word.specs.declared.limits.TheConstants.{MAX_LINE_SIZE}
use Rattle.spu_text.specs.declared.lexemes.Token.{Token}
use Rattle.spu_text.specs.declared.lexemes.TokenKind.{TokenKind}
use Rattle.spu_text.specs.declared.lexemes.TokenKind.TheVariants as kinds
use Rattle.spu_text.specs.declared.lexemes.TextFault.{TextFault}
use Rattle.spu_text.specs.declared.lexemes.TextFault.TheVariants as faults

-- ---- bytes

unfoldable pub is_space : ℕ → Bool
is_space b = b == 9 || b == 13 || b == 32

unfoldable pub is_source_byte : ℕ → Bool
is_source_byte b = b == 9 || b == 10 || b == 13 || (nat_le 32 b && nat_le b 126)

-- letters, digits, `_`, `.`, `$`, `@`
unfoldable pub is_word_byte : ℕ → Bool
is_word_byte b = is_ascii_alphanumeric b || b == 95 || b == 46 || b == 36 || b == 64

-- ---- words and numbers

-- the number that one digit or more write, below 2^128
unfoldable pub number_in : ℕ → List ℕ → Option ℕ
number_in radix ds = if not (length ds == 0) && list_all (λ c. nat_lt (digit_value c) radix) ds && nat_lt (digits_value radix ds) (2 ^ 128) then Some (digits_value radix ds) else None

-- n with one digit more, below 2^128
abbrev pub with_digit : ℕ → ℕ → ℕ → Option ℕ
with_digit radix n c = if nat_lt (digit_value c) radix && nat_lt (n * radix + digit_value c) (2 ^ 128) then Some (n * radix + digit_value c) else None

-- decimal, or `0x` and hexadecimal
unfoldable pub number_of : List ℕ → Option ℕ
number_of w = if slice_index w 0 == 48 && slice_index w 1 == 120 then number_in 16 (drop 2 w) else number_in 10 w

-- what the word is; nothing where it begins with a digit and is no number
unfoldable pub word_kind : List ℕ → Option TokenKind
word_kind w = if is_ascii_digit (slice_index w 0) then option_map (λ n. kinds.Number n) (number_of w) else Some kinds.Word

-- ---- quoted text

-- the place of the first `"` that isn't the byte after a `\`
abbrev pub closing : Bool → List ℕ → Option ℕ
closing escaped [] = None
closing true (b ∷ bs) = option_map (λ n. n + 1) (closing false bs)
closing false (b ∷ bs) = if b == 34 then Some 0 else option_map (λ n. n + 1) (closing (b == 92) bs)

-- ---- one token

-- what a token is, or nothing where it is no number below 2^128, and how many bytes it has
pub record Piece : Type 0 where
  pub kind : Option TokenKind
  pub size : ℕ

abbrev pub piece : Option TokenKind → ℕ → Piece
piece k n = record { kind = k; size = n }

abbrev pub mark_or_quoted : Option ℕ → Piece
mark_or_quoted None = piece (Some (kinds.Mark 34)) 1
mark_or_quoted (Some n) = piece (Some kinds.Quoted) (n + 2)

-- the token that begins at the front of these bytes, the first of which is no space and no `#`
unfoldable pub piece_of : List ℕ → Piece
piece_of bytes =
    if is_word_byte (slice_index bytes 0) then piece (word_kind (take (prefix_len is_word_byte bytes) bytes)) (prefix_len is_word_byte bytes)
    else (if slice_index bytes 0 == 34 then mark_or_quoted (closing false (drop 1 bytes))
    else (if slice_index bytes 0 == 59 then piece (Some kinds.EndOfStatement) 1
    else piece (Some (kinds.Mark (slice_index bytes 0))) 1))

-- ---- one line

infixl 10 ◌>>=◌
abbrev pub ◌>>=◌ : {A B : Type 0} → Result A TextFault → (A → Result B TextFault) → Result B TextFault
(Ok x) >>= f = f x
(Err e) >>= f = Err e

-- the tokens, with others in front
abbrev pub with_front : List Token → Result (List Token) TextFault → Result (List Token) TextFault
with_front front read = read >>= λ ts. Ok (front ++ ts)

abbrev pub token : ℕ → ℕ → ℕ → TokenKind → Token
token line at size k = record { kind = k; start = at; end = at + size; line = line }

-- a piece at its place, before the tokens behind it
abbrev pub placed : ℕ → ℕ → ℕ → Option TokenKind → Result (List Token) TextFault → Result (List Token) TextFault
placed line at size None read = Err (faults.BadNumber line)
placed line at size (Some k) read = with_front (token line at size k ∷ []) read

-- the line's statements end here, where it ends or a comment begins
abbrev pub is_over : List ℕ → Bool
is_over [] = true
is_over (b ∷ bs) = b == 35

-- The tokens of the rest of a line, which stands at `at`. Its first `inside` bytes belong to the token before.
abbrev pub scan : ℕ → ℕ → ℕ → List ℕ → Result (List Token) TextFault
scan line at inside [] = Ok (token line at 0 kinds.EndOfStatement ∷ [])
scan line at (suc inside) (b ∷ bs) = scan line (at + 1) inside bs
scan line at zero (b ∷ bs) =
    if b == 35 then Ok (token line at 0 kinds.EndOfStatement ∷ [])
    else (if is_space b then scan line (at + 1) 0 bs
    else placed line at (piece_of (b ∷ bs)).size (piece_of (b ∷ bs)).kind (scan line (at + 1) ((piece_of (b ∷ bs)).size - 1) bs))

-- ---- the text

-- the byte in front of the first line
abbrev pub onto : ℕ → List (List ℕ) → List (List ℕ)
onto b [] = (b ∷ []) ∷ []
onto b (l ∷ ls) = (b ∷ l) ∷ ls

-- the text's lines, each with its byte 10
abbrev pub lines_of : List ℕ → List (List ℕ)
lines_of [] = []
lines_of (b ∷ bs) = if b == 10 then (b ∷ []) ∷ lines_of bs else onto b (lines_of bs)

abbrev pub is_no_newline : ℕ → Bool
is_no_newline b = not (b == 10)

-- how many bytes the first line has, with its byte 10
abbrev pub line_len : List ℕ → ℕ
line_len s = min (prefix_len is_no_newline s + 1) (length s)

-- the line without its byte 10 and one byte 13 before that
unfoldable pub content : List ℕ → List ℕ
content l = let n = prefix_len is_no_newline l in
    if nat_lt n (length l) && nat_lt 0 n && slice_index l (n - 1) == 13 then take (n - 1) l else take n l

-- the tokens of the line with this number, which stands at `at`
unfoldable pub line_read : ℕ → ℕ → List ℕ → Result (List Token) TextFault
line_read line at l =
    if not (list_all is_source_byte (content l)) then Err (faults.NotAscii line)
    else (if nat_lt MAX_LINE_SIZE (length (content l)) then Err (faults.LineTooLong line)
    else scan line at 0 (content l))

-- those of the lines from this one on
abbrev pub lines_read : ℕ → ℕ → List (List ℕ) → Result (List Token) TextFault
lines_read line at [] = Ok []
lines_read line at (l ∷ ls) = line_read line at l >>= λ ts. with_front ts (lines_read (line + 1) (at + length l) ls)

abbrev pub text_read : List ℕ → Result (List Token) TextFault
text_read text = lines_read 1 0 (lines_of text)
