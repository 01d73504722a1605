-- Which areas a run can be given: each name that is asked for has one, no two share a byte, and each is in range. The rules are this
-- project's own.
use Rattle.std.specs.Prelude.{ℕ, ◌+◌, ◌%◌, ◌^◌, ◌==◌, ◌&&◌, ◌||◌, nat_le, nat_lt, not, if◌then◌else◌, Bool, List, [], ◌∷◌, ◌++◌, length, slice_index_or, Option, Some, None}
use Rattle.std.specs.List.{position, list_any}
use Rattle.std.specs.Str.{bytes_eq}
use Rattle.spu_word.specs.declared.limits.TheConstants.{MAX_AREA_SIZE, QUAD_SIZE}
use Rattle.spu_word.specs.declared.load.Area.{Area}
use Rattle.spu_exec.specs.Transfers.{Stretch, stretch_of}

-- the area of an index that there is
abbrev pub area_at : List Area → ℕ → Area
area_at areas k = slice_index_or areas k (record { name = []; ea = 0; bytes = [] })

-- whether there is an area of a name
abbrev pub is_area : List Area → List ℕ → Bool
is_area areas name = list_any (λ (a : Area). bytes_eq a.name name) areas

-- the first area that shares a byte with the image or with an area before it
abbrev pub shares : Stretch → Stretch → Bool
shares x y = nat_lt 0 (length x.bytes) && (nat_lt 0 (length y.bytes) && (nat_lt x.ea (y.ea + length y.bytes) && nat_lt y.ea (x.ea + length x.bytes)))

abbrev pub overlaps : Stretch → List Area → Area → Bool
overlaps image before a = shares (stretch_of a) image || list_any (λ (b : Area). shares (stretch_of a) (stretch_of b)) before

abbrev pub first_overlap : Stretch → List Area → List Area → Option ℕ
first_overlap image before [] = None
first_overlap image before (a ∷ areas) = if overlaps image before a then Some (length before) else first_overlap image (before ++ a ∷ []) areas

-- the first area that is empty, too long, not at a multiple of 16, or passes 2 ^ 64
abbrev pub is_in_range : Area → Bool
is_in_range a = nat_lt 0 (length a.bytes) && (nat_le (length a.bytes) MAX_AREA_SIZE && ((a.ea % QUAD_SIZE == 0) && nat_le (a.ea + length a.bytes) (2 ^ 64)))

abbrev pub first_unfit : List Area → Option ℕ
first_unfit areas = position (λ (a : Area). not (is_in_range a)) areas
