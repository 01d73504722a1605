-- The object of a history: its sections, its symbols, locals before globals, and its relocations.
use Rattle.std.specs.Prelude.{ℕ, ◌+◌, ◌||◌, Bool, true, false, not, List, [], ◌∷◌, ◌++◌, map, filter, Option, Some, None, is_none}
use Rattle.spu_elf.specs.declared.objects.Object.{Object}
use Rattle.spu_elf.specs.declared.objects.Section.{Section}
use Rattle.spu_elf.specs.declared.objects.Symbol.{Symbol}
use Rattle.spu_elf.specs.declared.objects.SymPlace.{SymPlace}
use Rattle.spu_elf.specs.declared.objects.SymPlace.TheVariants as places
use Rattle.spu_elf.specs.declared.objects.Reloc.{Reloc}
use Rattle.spu_asm.specs.Statements.{Name, Relocation}
use Rattle.spu_asm.specs.Histories.{History, Spot}
use Rattle.spu_asm.specs.Tables.{Rows, index_in}
use Rattle.spu_asm.specs.Summaries.{Draft, Sighting, Cursor, summary}

abbrev pub value_of : Option Spot → ℕ
value_of None = 0
value_of (Some s) = s.offset

abbrev pub section_at : Name × Draft → Section
section_at e = record { name = e.0; kind = e.1.kind; align = e.1.align; size = e.1.size; bytes = e.1.bytes }

-- an undefined symbol is global
abbrev pub is_global_at : Name × Sighting → Bool
is_global_at e = e.1.exported || is_none e.1.spot

abbrev pub is_chosen : Bool → Name × Sighting → Bool
is_chosen true e = is_global_at e
is_chosen false e = not (is_global_at e)

-- the symbols that are global, or those that aren't
abbrev pub chosen : Bool → Rows Sighting → Rows Sighting
chosen global t = filter (is_chosen global) t

-- locals, then globals
abbrev pub ordered_at : Rows Sighting → Rows Sighting
ordered_at t = chosen false t ++ chosen true t

abbrev pub place_at : Rows Draft → Option Spot → SymPlace
place_at t None = places.Undefined
place_at t (Some s) = places.Inside (index_in t s.section)

abbrev pub symbol_at : Rows Draft → Name × Sighting → Symbol
symbol_at t e = record { name = e.0; value = value_of e.1.spot; size = e.1.size; kind = e.1.kind; global = is_global_at e; place = place_at t e.1.spot }

abbrev pub reloc_at : {T : Type 0} → Rows T → ℕ → Relocation → Reloc
reloc_at order k r = record { section = k; offset = r.offset; symbol = index_in order r.name; kind = r.number; addend = r.addend }

-- those of the sections from number k on
abbrev pub relocs_at : {T : Type 0} → Rows T → ℕ → Rows Draft → List Reloc
relocs_at order k [] = []
relocs_at order k (e ∷ es) = map (reloc_at order k) e.1.relocations ++ relocs_at order (k + 1) es

abbrev pub object_at : Cursor → Object
object_at c = record {
  sections = map section_at c.sections;
  symbols = map (symbol_at c.sections) (ordered_at c.symbols);
  relocs = relocs_at (ordered_at c.symbols) 0 c.sections;
}

abbrev pub object_of : History → Object
object_of h = object_at (summary h)
