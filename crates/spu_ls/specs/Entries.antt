-- The symbols of an executable whose quadwords a load fills in: the entries, which name areas, and the one that tells where the
-- executable's file lies. The names are this project's own; the symbols are those of the ELF format.
use Rattle.std.specs.Prelude.{ℕ, ◌&&◌, Bool, true, false, List, [], ◌∷◌, length, take, drop, map, filter, codes, nat_lt, if◌then◌else◌, Option, Some, None}
use Rattle.std.specs.Str.{bytes_eq}
use Rattle.spu_elf.specs.declared.objects.SymKind.{SymKind}
use Rattle.spu_elf.specs.declared.objects.SymKind.TheVariants as kinds
use Rattle.spu_elf.specs.declared.objects.Symbol.{Symbol}
use Rattle.spu_exec.specs.Entries.{Entry}
use Rattle.spu_ls.specs.declared.entries.TheConstants.{PREFIX_SIZE}

abbrev pub is_object : SymKind → Bool
is_object kinds.Object = true
is_object _ = false

-- an entry: a global Object whose name begins with `_EAR_` and goes on
abbrev pub is_entry : Symbol → Bool
is_entry s = s.global && (is_object s.kind && (nat_lt PREFIX_SIZE (length s.name) && bytes_eq (take PREFIX_SIZE s.name) (codes "_EAR_")))

-- the name of the area that it refers to
abbrev pub area_name : Symbol → List ℕ
area_name s = drop PREFIX_SIZE s.name

abbrev pub entry_of : Symbol → Entry
entry_of s = record { at = s.value; name = area_name s }

-- the entries among symbols, in order
abbrev pub entries_of : List Symbol → List Entry
entries_of symbols = map entry_of (filter is_entry symbols)

-- the symbol of the quadword that tells where the executable's file lies
abbrev pub is_image_ea : Symbol → Bool
is_image_ea s = s.global && (is_object s.kind && bytes_eq s.name (codes "__image_ea"))

-- where that quadword lies: the place of the first such symbol, if there is one
abbrev pub image_place : List Symbol → Option ℕ
image_place [] = None
image_place (s ∷ ss) = if is_image_ea s then Some s.value else image_place ss
