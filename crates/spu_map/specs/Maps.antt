-- The printed map of an executable: where it starts, and where its segments and its symbols lie. (This project's own.)
use Rattle.std.specs.Prelude.{ℕ, ◌+◌, ◌==◌, if◌then◌else◌, List, [], ◌∷◌, ◌++◌, length, codes, Option, Some, None}
use Rattle.std.specs.List.{flat_map}
use Rattle.std.specs.Fmt.{decimal}
use Rattle.spu_elf.specs.Rows.{begins, front_size}
use Rattle.spu_elf.specs.declared.objects.SymKind.{SymKind}
use Rattle.spu_elf.specs.declared.objects.SymKind.TheVariants as kinds
use Rattle.spu_elf.specs.declared.objects.SymPlace.{SymPlace}
use Rattle.spu_elf.specs.declared.objects.SymPlace.TheVariants as places
use Rattle.spu_elf.specs.declared.objects.Symbol.{Symbol}
use Rattle.spu_elf.specs.declared.executables.Segment.{Segment}
use Rattle.spu_elf.specs.declared.executables.Exec.{Exec}
use Rattle.spu_ls.specs.Entries.{image_place}

-- an image with overlays is one that has a quadword for the place of its file
abbrev pub form_name : Option ℕ → List ℕ
form_name None = codes "flat"
form_name (Some place) = codes "overlay"

abbrev pub image_line : Exec → List ℕ
image_line x = codes "image " ++ form_name (image_place x.symbols) ++ codes " entry " ++ decimal x.entry ++ codes "\n"

-- ---- segments: the first is loaded, and the others are regions, which are loaded on demand from their places in the file

abbrev pub load_line : Segment → List ℕ
load_line s = codes "load " ++ decimal s.address ++ codes " " ++ decimal (length s.bytes) ++ codes "\n"

abbrev pub region_line : ℕ → Segment → ℕ → List ℕ
region_line k s offset =
    codes "region " ++ decimal k ++ codes " " ++ decimal s.address ++ codes " " ++ decimal (length s.bytes)
    ++ codes " " ++ decimal offset ++ codes "\n"

abbrev pub segment_line : ℕ → Segment → ℕ → List ℕ
segment_line k s offset = if k == 0 then load_line s else region_line k s offset

-- those from segment k on, where the bytes of the file before it end at `at`
unfoldable pub segment_lines : ℕ → ℕ → List Segment → List ℕ
segment_lines k at [] = []
segment_lines k at (s ∷ ss) = segment_line k s (begins at) ++ segment_lines (k + 1) (begins at + length s.bytes) ss

-- ---- symbols: those that are absolute, functions in segments, each with its segment's number, and all others

abbrev pub absolute_line : ℕ → List ℕ → List ℕ
absolute_line value name = codes "abs " ++ decimal value ++ codes " " ++ name ++ codes "\n"

abbrev pub function_line : ℕ → ℕ → ℕ → List ℕ → List ℕ
function_line address size region name =
    codes "func " ++ decimal address ++ codes " " ++ decimal size ++ codes " " ++ decimal region ++ codes " " ++ name ++ codes "\n"

abbrev pub object_line : ℕ → ℕ → List ℕ → List ℕ
object_line address size name = codes "object " ++ decimal address ++ codes " " ++ decimal size ++ codes " " ++ name ++ codes "\n"

abbrev pub placed_line : SymPlace → SymKind → ℕ → ℕ → List ℕ → List ℕ
placed_line places.Absolute kind value size name = absolute_line value name
placed_line (places.Inside region) kinds.Function value size name = function_line value size region name
placed_line place kind value size name = object_line value size name

abbrev pub symbol_line : Symbol → List ℕ
symbol_line s = placed_line s.place s.kind s.value s.size s.name

abbrev pub map_text : Exec → List ℕ
map_text x = image_line x ++ segment_lines 0 (front_size (length x.segments)) x.segments ++ flat_map symbol_line x.symbols
