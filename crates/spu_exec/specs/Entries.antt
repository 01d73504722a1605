-- The quadwords of named areas: where they lie, and what they hold at the start of a run. That a run fills them in is this project's own
-- rule; the addresses are those of effective memory, Cell Broadband Engine Architecture.
use Rattle.std.specs.Prelude.{ℕ, ◌/◌, ◌%◌, ◌^◌, if◌then◌else◌, List, [], ◌∷◌, length}
use Rattle.std.specs.Str.{bytes_eq}
use Rattle.spu_word.specs.Bytes.{quad_of}
use Rattle.spu_word.specs.declared.load.Area.{Area}

-- an entry: the address of its quadword, and the name of its area
pub record Entry : Type 0 where
  pub at : ℕ
  pub name : List ℕ

-- an area's quadword: the two words of its effective address, and its length
abbrev pub area_quad : Area → List ℕ
area_quad a = quad_of (a.ea / 2 ^ 32) (a.ea % 2 ^ 32) (length a.bytes) 0

-- the quadword of the first area of a name
abbrev pub quad_for : List Area → List ℕ → List ℕ
quad_for [] name = []
quad_for (a ∷ areas) name = if bytes_eq a.name name then area_quad a else quad_for areas name
