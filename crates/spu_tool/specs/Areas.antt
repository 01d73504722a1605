-- The areas that words name, `NAME:EA:FILE`, and what a run is given of them.
use Rattle.std.specs.Prelude.{◌≡◌, ℕ, ◌==◌, ◌&&◌, ◌||◌, not, Bool, List, [], ◌∷◌, length, nat_le, nat_lt, if◌then◌else◌, Option, Some, None, slice_get}
use Rattle.std.specs.List.{list_all, list_any}
use Rattle.std.specs.Str.{bytes_eq}
use Rattle.spu_word.specs.declared.limits.TheConstants.{MAX_AREAS}
use Rattle.spu_word.specs.declared.load.Area.{Area}
use Rattle.spu_tool.specs.declared.areas.AreaPlace.{AreaPlace}
use Rattle.spu_tool.specs.declared.areas.AreaWord.{AreaWord as Word}
use Rattle.spu_tool.specs.declared.numbers.TheConstants.{MAX_ADDRESS}
use Rattle.spu_tool.specs.Numbers.{number_within}
use Rattle.spu_tool.specs.Cutting.{cut_at}

abbrev pub colon : ℕ
colon = 58

-- letters, digits and `_`
abbrev pub is_name_byte : ℕ → Bool
is_name_byte c =
    (nat_le 48 c && nat_le c 57) || ((nat_le 65 c && nat_le c 90) || ((nat_le 97 c && nat_le c 122) || c == 95))

abbrev pub is_area_name : List ℕ → Bool
is_area_name name = not (length name == 0) && list_all is_name_byte name

-- the name of an area, its effective address, and the name of its file
pub record AreaParts : Type 0 where
  pub name : List ℕ
  pub ea : ℕ
  pub file : List ℕ

abbrev pub parts_shown : Option Word → Option AreaParts
parts_shown None = None
parts_shown (Some w) = Some (record { name = w.name.now; ea = w.ea; file = w.file.now })

-- an area has a name and a file, and its address is a number below 2 ^ 64
abbrev pub area_with : List ℕ → List ℕ → Option ℕ → Option AreaParts
area_with name file None = None
area_with name file (Some ea) =
    if is_area_name name && not (length file == 0) then Some (record { name = name; ea = ea; file = file }) else None

abbrev pub area_behind : List ℕ → Option (List ℕ × List ℕ) → Option AreaParts
area_behind name None = None
area_behind name (Some parts) = area_with name parts.1 (number_within MAX_ADDRESS parts.0)

abbrev pub area_in : Option (List ℕ × List ℕ) → Option AreaParts
area_in None = None
area_in (Some parts) = area_behind parts.0 (cut_at colon parts.1)

-- the area that a word names
abbrev pub area_word : List ℕ → Option AreaParts
area_word value = area_in (cut_at colon value)

-- ---- the areas that were named

abbrev pub is_placed : List AreaPlace → List ℕ → Bool
is_placed places name = list_any (λ (p : AreaPlace). bytes_eq p.name name) places

-- one more, of a name that none before has
abbrev pub has_room : List AreaPlace → List ℕ → Bool
has_room places name = nat_lt (length places) MAX_AREAS && not (is_placed places name)

abbrev pub place_of : List ℕ → ℕ → AreaPlace
place_of name ea = record { name = name; ea = ea }

-- no two have one name
abbrev pub ArePlaced : List AreaPlace → Type 0
ArePlaced places = (i j : ℕ) (p q : AreaPlace) → slice_get places i ≡ Some p → slice_get places j ≡ Some q → p.name ≡ q.name → i ≡ j

-- the areas of these places, whose bytes these are
abbrev pub areas_of : List AreaPlace → List (List ℕ) → List Area
areas_of [] files = []
areas_of (p ∷ places) [] = []
areas_of (p ∷ places) (bytes ∷ files) = record { name = p.name; ea = p.ea; bytes = bytes } ∷ areas_of places files
