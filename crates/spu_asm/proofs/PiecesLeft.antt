-- How many pieces are left, one more where a part is left.
use Rattle.std.proofs.Common.{ℕ, suc, length, Option, Some, None, List}
use Rattle.std.specs.Borrow.{Bor}
use Rattle.spu_text.specs.declared.line.Piece.{Piece}

abbrev pub pieces_left : Option (Bor (List Piece)) → ℕ
pieces_left None = 0
pieces_left (Some ts) = suc (length ts.now)
