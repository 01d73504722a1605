-- How the code goes over parts: what is left is a part and more parts, or nothing.
use Rattle.std.specs.Prelude.{ℕ, List, [], Option, Some, None, map}
use Rattle.std.specs.Borrow.{Bor}
use Rattle.spu_text.specs.declared.line.Piece.{Piece}
use Rattle.spu_text.specs.Lexemes.{Lexeme, lexeme_of}
use Rattle.spu_asm.specs.Values.{parted}

abbrev pub lexemes : List Piece → List Lexeme
lexemes ps = map lexeme_of ps

abbrev pub parts_left : ℕ → Option (Bor (List Piece)) → List (List Lexeme)
parts_left c None = []
parts_left c (Some ps) = parted c (lexemes ps.now)
