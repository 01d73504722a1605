-- What the code keeps of the statements so far, and what the next one makes of it.
use Rattle.std.specs.Prelude.{ℕ, ◌+◌, ◌≤◌, ◌&&◌, Bool, max, nat_lt, nat_le, List, [], ◌∷◌, ◌++◌, length, map, replicate, option_map, unwrap_or, codes, Result, Ok, Err}
use Rattle.std.specs.List.{list_all}
use Rattle.spu_word.specs.Bytes.{be_digits}
use Rattle.spu_elf.specs.declared.objects.SecKind.{SecKind}
use Rattle.spu_elf.specs.declared.objects.SecKind.TheVariants as kinds
use Rattle.spu_asm.specs.declared.sections.Pending.{Pending}
use Rattle.spu_asm.specs.declared.sections.SectionDraft.{SectionDraft}
use Rattle.spu_asm.specs.declared.symbols.Spot.{Spot as CodeSpot}
use Rattle.spu_asm.specs.declared.symbols.SymbolDraft.{SymbolDraft}
use Rattle.spu_asm.specs.declared.tables.Table.{Table}
use Rattle.spu_asm.specs.declared.faults.AsmKind.{AsmKind}
use Rattle.spu_asm.specs.declared.accumulating.Assembler.{Assembler}
use Rattle.spu_asm.specs.Statements.{Name, Relocation, moved, Effect, instruction, content, space, align, may_be_common, common}
use Rattle.spu_asm.specs.Histories.{Spot, Heading, added_all, gap, filling, added_bytes, label_needs, needs, target_of, home_after, common_spot, named_by, stored}
use Rattle.spu_asm.specs.Tables.{Rows, rows, value_in, opened, edited, with_values}
use Rattle.spu_asm.specs.Summaries.{Draft, Sighting, Cursor, unseen, placed, told_of, size_at}

-- ---- sections

abbrev pub relocation_of_pending : Pending → Relocation
relocation_of_pending p = record { offset = p.offset; number = p.number; name = p.name.now; addend = p.addend }

abbrev pub draft_of : SectionDraft → Draft
draft_of s = record { kind = s.kind; align = s.align; size = s.size; bytes = s.bytes; relocations = map relocation_of_pending s.relocations }

abbrev pub drafts : Table SectionDraft → Rows Draft
drafts t = with_values draft_of (rows t)

-- a section without a byte
abbrev pub blank : SecKind → Draft
blank k = record { kind = k; align = 16; size = 0; bytes = []; relocations = [] }

abbrev pub grown : List ℕ → Draft → Draft
grown bs d = record d { size = d.size + length bs; bytes = d.bytes ++ stored d.kind bs }

abbrev pub referring : List Relocation → Draft → Draft
referring rs d = record d { relocations = d.relocations ++ rs }

abbrev pub raised : ℕ → Draft → Draft
raised step d = record d { align = max d.align step }

-- what an effect makes of the section that it adds to
abbrev pub grown_by : Effect → Draft → Draft
grown_by (instruction w ns rs) d = grown (be_digits w) (referring (moved d.size rs) d)
grown_by (content bs rs) d = grown bs (referring (moved d.size rs) d)
grown_by (space n) d = grown (replicate n 0) d
grown_by (align step) d = raised step (grown (filling d.kind (gap step d.size)) d)
grown_by (common n size step) d = raised step (grown (filling d.kind (gap step d.size) ++ replicate size 0) d)
grown_by _ d = d

-- a section has at most 262,144 bytes behind it
abbrev pub Fits : Effect → Draft → Type 0
Fits e d = d.size + length (added_bytes d.kind d.size e) ≤ 262144

abbrev pub opened_headings : Rows Draft → List Heading → Rows Draft
opened_headings t xs = added_all (λ (e : Name × Draft). e.0) t (map (λ (x : Heading). (x.name, blank x.kind)) xs)

-- ---- symbols

abbrev pub spot_of_code : CodeSpot → Spot
spot_of_code s = record { section = s.section.now; offset = s.offset }

abbrev pub sighting_of : SymbolDraft → Sighting
sighting_of s = record { spot = option_map spot_of_code s.spot; exported = s.exported; kind = s.kind; size = s.size }

abbrev pub sightings : Table SymbolDraft → Rows Sighting
sightings t = with_values sighting_of (rows t)

abbrev pub state_at : Rows Sighting → Name → Sighting
state_at t n = unwrap_or (value_in t n) unseen

-- what is told of a name, which is seen with it
abbrev pub told : Rows Sighting → Name → (Sighting → Sighting) → Rows Sighting
told t n f = edited (opened t n unseen) n f

abbrev pub told_all : Rows Sighting → List Name → (Sighting → Sighting) → Rows Sighting
told_all t [] f = t
told_all t (n ∷ ns) f = told_all (told t n f) ns f

-- ---- a statement is accepted

-- labels stand here
abbrev pub with_labels : List Name → Cursor → Cursor
with_labels ls c = record c {
  sections = opened_headings c.sections (label_needs c.current ls);
  symbols = told_all c.symbols ls (placed (record { section = c.current; offset = size_at c.sections c.current }));
}

abbrev pub local_by : Effect → Rows (Unit {0}) → Rows (Unit {0})
local_by (may_be_common n) t = opened t n tt
local_by _ t = t

-- what an effect does, in sections of which those that it needs are there
abbrev pub obeyed_in : Effect → Rows Draft → Cursor → Cursor
obeyed_in e t c = record {
  current = home_after e c.current;
  sections = edited t (target_of e c.current) (grown_by e);
  symbols = told_all c.symbols (named_by e) (told_of e (size_at t c.current) (common_spot e (size_at t (codes ".bss"))));
  locals = local_by e c.locals;
}

abbrev pub obeyed : Effect → Cursor → Cursor
obeyed e c = obeyed_in e (opened_headings c.sections (needs c.current e)) c

abbrev pub accepted_at : Cursor → List Name → Effect → Cursor
accepted_at c ls e = obeyed e (with_labels ls c)

abbrev pub cursor_of : Assembler → Cursor
cursor_of a = record { current = a.current.now; sections = drafts a.sections; symbols = sightings a.symbols; locals = rows a.locals }

-- a statement that can't be read changes nothing
abbrev pub taken_at : Cursor → List Name → Result Effect AsmKind → Cursor
taken_at c ls (Ok e) = accepted_at c ls e
taken_at c ls (Err k) = c

-- ---- numbers of 32 bits

abbrev pub is_near : Relocation → Bool
is_near r = nat_lt r.offset 4294967296

abbrev pub has_near : Name × Draft → Bool
has_near e = list_all is_near e.1.relocations

abbrev pub is_small : Name × Sighting → Bool
is_small e = nat_lt e.1.size 4294967296

-- no more sections and symbols than a file has, and numbers of 32 bits
abbrev pub is_spellable : Cursor → Bool
is_spellable c = nat_le (length c.sections) 4096 && (nat_le (length c.symbols) 262144 && (list_all is_small c.symbols && list_all has_near c.sections))

-- the names of symbols behind others
abbrev pub numbered : Rows (Unit {0}) → Rows Sighting → Rows (Unit {0})
numbered order es = added_all (λ (e : Name × Unit {0}). e.0) order (with_values (λ (s : Sighting). tt) es)
