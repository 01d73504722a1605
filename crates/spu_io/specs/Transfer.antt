-- What a read adds to the bytes that were read before it, where it is known what a reader has left.
use Rattle.std.specs.Prelude.{◌≡◌, ℕ, ◌+◌, ◌≤◌, ◌⊎◌, List, ◌++◌, length, Option}
use Rattle.spu_word.specs.declared.limits.TheConstants.{MAX_FILE_SIZE}
use Rattle.std.specs.Io.KnownBytes.{Consumes, IsAtEnd}

-- n bytes were added, which the reader had left; none only at the end, and at the limit
pub record ReadOn (left left_now : Option (List ℕ)) (bytes bytes_now : List ℕ) (n : ℕ) : Type 0 where
  pub piece : List ℕ
  pub added : bytes_now ≡ bytes ++ piece
  pub taken : Consumes left left_now piece
  pub short : length bytes_now ≤ MAX_FILE_SIZE + 1
  pub end : n ≡ 0 → IsAtEnd left_now ⊎ (length bytes_now ≡ MAX_FILE_SIZE + 1)
