-- What statements come to: the section that goes on, the sections and the symbols by name, each where it was first needed or
-- seen, and the names that may be common.
use Rattle.std.specs.Prelude.{ℕ, Bool, true, false, if◌then◌else◌, List, [], ◌∷◌, map, Option, Some, None, option_map, option_and_then, unwrap_or, codes}
use Rattle.spu_elf.specs.declared.objects.SecKind.{SecKind}
use Rattle.spu_elf.specs.declared.objects.SecKind.TheVariants as kinds
use Rattle.spu_elf.specs.declared.objects.SymKind.{SymKind}
use Rattle.spu_elf.specs.declared.objects.SymKind.TheVariants as names
use Rattle.spu_asm.specs.Statements.{Name, Relocation, Effect, exports, has_kind, ends_here, has_size, common}
use Rattle.spu_asm.specs.Histories
use Rattle.spu_asm.specs.Histories.{History, Entry, Heading, heading_name, itself, Spot, is_among, stored, added_bytes, target_of, headings, align_in, size_in, bytes_in, relocations_in, common_spot, reach, named_by, symbol_names, local_names}
use Rattle.spu_asm.specs.Tables.{Rows, value_in}

-- A section so far: a Zero section has a size and no bytes.
pub record Draft : Type 0 where
  pub kind : SecKind
  pub align : ℕ
  pub size : ℕ
  pub bytes : List ℕ
  pub relocations : List Relocation

-- A symbol so far.
pub record Sighting : Type 0 where
  pub spot : Option Spot
  pub exported : Bool
  pub kind : SymKind
  pub size : ℕ

pub record Cursor : Type 0 where
  -- the section in which the next statement stands
  pub current : Name
  pub sections : Rows Draft
  pub symbols : Rows Sighting
  -- the names that `.comm` may take
  pub locals : Rows (Unit {0})

abbrev pub draft_in : History → Heading → Draft
draft_in h x = record { kind = x.kind; align = align_in x.name h; size = size_in x.name h; bytes = stored x.kind (bytes_in x.name h); relocations = relocations_in x.name h }

abbrev pub unseen : Sighting
unseen = record { spot = None; exported = false; kind = names.Plain; size = 0 }

abbrev pub placed : Spot → Sighting → Sighting
placed at s = record s { spot = Some at }

-- what an effect tells of the symbols that it names, where the next byte stands there, and a common symbol there
abbrev pub told_of : Effect → ℕ → Spot → Sighting → Sighting
told_of (exports n) at spot s = record s { exported = true }
told_of (has_kind n k) at spot s = record s { kind = k }
told_of (ends_here n) at spot s = record s { size = reach s.spot at }
told_of (has_size n size) at spot s = record s { size = size }
told_of (common n size step) at spot s = record s { spot = Some spot; size = size }
told_of _ at spot s = s

-- changed, where the name is among these
abbrev pub amended : List Name → Name → (Sighting → Sighting) → Sighting → Sighting
amended ms n f s = if is_among ms n then f s else s

-- A label stands behind all that its section has before it; then the effect tells of the symbols that it names.
abbrev pub sighting_in : History → Name → Sighting
sighting_in [] n = unseen
sighting_in (e ∷ h) n =
    amended (named_by e.effect) n (told_of e.effect (size_in e.home h) (common_spot e.effect (size_in (codes ".bss") h)))
    (amended e.labels n (placed (record { section = e.home; offset = size_in e.home h })) (sighting_in h n))

-- the rows of a function over keys
abbrev pub tabled : {X T : Type 0} → (X → Name) → (X → T) → List X → Rows T
tabled key f xs = map (λ x. (key x, f x)) xs

abbrev pub summary : History → Cursor
summary h = record {
  current = Histories.current h;
  sections = tabled heading_name (draft_in h) (headings h);
  symbols = tabled itself (sighting_in h) (symbol_names h);
  locals = tabled itself (λ n. tt) (local_names h);
}

-- ---- look-ups

abbrev pub kind_at : Rows Draft → Name → SecKind → SecKind
kind_at t n k = unwrap_or (option_map (λ (d : Draft). d.kind) (value_in t n)) k

abbrev pub size_at : Rows Draft → Name → ℕ
size_at t n = unwrap_or (option_map (λ (d : Draft). d.size) (value_in t n)) 0

abbrev pub spot_at : Rows Sighting → Name → Option Spot
spot_at t n = option_and_then (λ (s : Sighting). s.spot) (value_in t n)

-- ---- the next statement

-- one that isn't there yet is `.text`
abbrev pub kind_here : Cursor → SecKind
kind_here c = kind_at c.sections c.current kinds.Code

-- the kind of the section whose bytes an effect's are; `.comm` makes `.bss`, where there is none
abbrev pub target_kind_at : Cursor → Effect → SecKind
target_kind_at c (common n size step) = kind_at c.sections (codes ".bss") kinds.Zero
target_kind_at c e = kind_here c

abbrev pub target_place_at : Cursor → Effect → ℕ
target_place_at c e = size_at c.sections (target_of e c.current)

-- the bytes that an effect adds
abbrev pub new_bytes : Cursor → Effect → List ℕ
new_bytes c e = added_bytes (target_kind_at c e) (target_place_at c e) e

-- the statement behind these
abbrev pub enter : History → List Name → Effect → Entry
enter h labels e = record { home = Histories.current h; labels = labels; effect = e; bytes = new_bytes (summary h) e }
