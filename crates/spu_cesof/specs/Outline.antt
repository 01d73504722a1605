-- Where the parts of an embedded executable's object lie, and its section headers, by the three sizes that it is read with.
-- System V ELF, "Sections".
use Rattle.std.specs.Prelude.{ℕ, ◌+◌, ◌-◌, ◌*◌, ◌/◌, List, [], ◌∷◌, ◌++◌, take, drop, codes, if◌then◌else◌, ◌==◌}
use Rattle.spu_word.specs.Bytes.{be_number, be_half_number}
use Rattle.spu_elf.specs.declared.constants.TheConstants.{E_SHNUM, E_SHOFF, RELA_SIZE, SECTION_STEP, SHDR_SIZE, SH_SIZE, SYM_SIZE}
use Rattle.spu_elf.specs.declared.objects.SecKind.TheVariants as kinds
use Rattle.spu_elf.specs.Rows.{padding, section_words, data_head, symbols_head, strings_head, relocations_head}
use Rattle.spu_cesof.specs.declared.constants.TheConstants.{FIRST_ENTRY, HANDLE_ALIGN, HANDLE_NAME, HANDLE_RELOCS_NAME_SIZE, HANDLE_SIZE, IMAGE_ALIGN, IMAGE_NAME, NAMES_NAME_SIZE, RELOCS_NAME, SECTION_COUNT, TABLE_NAME_SIZE, TOE_ENTRY_SIZE, TOE_NAME, TOE_RELOCS_NAME_SIZE}
use Rattle.spu_cesof.specs.declared.places.Places.{Places}

-- without entries there are no relocations of the table, and one section less
abbrev pub with_entries : ℕ → ℕ → ℕ
with_entries entries n = if entries == 0 then 0 else n

abbrev pub section_count : ℕ → ℕ
section_count entries = SECTION_COUNT - 1 + with_entries entries 1

-- the number of the symbol table: both string tables come after it
abbrev pub symbols_number : ℕ → ℕ
symbols_number entries = section_count entries - 3

-- where the names of the sections behind the table's relocations begin
abbrev pub later_names : ℕ → ℕ
later_names entries = RELOCS_NAME + with_entries entries TOE_RELOCS_NAME_SIZE

-- where the names of the three tables begin
abbrev pub table_names : ℕ → ℕ
table_names entries = later_names entries + HANDLE_RELOCS_NAME_SIZE

-- how long the names of all sections are
abbrev pub names_size : ℕ → ℕ
names_size entries = table_names entries + 2 * TABLE_NAME_SIZE + NAMES_NAME_SIZE

abbrev pub section_names : ℕ → List ℕ
section_names entries =
    (0 ∷ codes ".rodata.speelf" ++ 0 ∷ codes ".data.spetoe" ++ 0 ∷ codes ".data.spehandle" ++ 0 ∷ [])
    ++ (if entries == 0 then [] else codes ".rela.data.spetoe" ++ 0 ∷ [])
    ++ (codes ".rela.data.spehandle" ++ 0 ∷ codes ".symtab" ++ 0 ∷ codes ".strtab" ++ 0 ∷ codes ".shstrtab" ++ 0 ∷ [])

-- the parts, one behind the other: the executable at 128, the table at the next multiple of 16, the handle, the relocations of both,
-- the symbols, their names, and the names of sections
abbrev pub places_from : ℕ → ℕ → ℕ → ℕ → ℕ → Places
places_from headers image_size entries strings_size toe = record {
  headers = headers;
  image_size = image_size;
  entries = entries;
  toe = toe;
  handle = toe + TOE_ENTRY_SIZE * entries;
  toe_relocs = toe + TOE_ENTRY_SIZE * entries + HANDLE_SIZE;
  handle_relocs = toe + TOE_ENTRY_SIZE * entries + HANDLE_SIZE + RELA_SIZE * entries;
  symbols = toe + TOE_ENTRY_SIZE * entries + HANDLE_SIZE + RELA_SIZE * entries + 2 * RELA_SIZE;
  strings = toe + TOE_ENTRY_SIZE * entries + HANDLE_SIZE + RELA_SIZE * entries + 2 * RELA_SIZE + SYM_SIZE * (1 + FIRST_ENTRY + entries);
  strings_size = strings_size;
  names = toe + TOE_ENTRY_SIZE * entries + HANDLE_SIZE + RELA_SIZE * entries + 2 * RELA_SIZE + SYM_SIZE * (1 + FIRST_ENTRY + entries) + strings_size;
  end = toe + TOE_ENTRY_SIZE * entries + HANDLE_SIZE + RELA_SIZE * entries + 2 * RELA_SIZE + SYM_SIZE * (1 + FIRST_ENTRY + entries) + strings_size + names_size entries;
}

abbrev pub places_with : ℕ → ℕ → ℕ → ℕ → Places
places_with headers image_size entries strings_size =
    places_from headers image_size entries strings_size (IMAGE_ALIGN + image_size + padding SECTION_STEP (IMAGE_ALIGN + image_size))

-- ---- what is read: the place of the section headers, their number, and the sizes of the executable, of the table and of the names

abbrev pub sections_in : List ℕ → ℕ
sections_in b = if be_half_number b E_SHNUM == SECTION_COUNT - 1 then SECTION_COUNT - 1 else SECTION_COUNT

abbrev pub at_least_one : ℕ → ℕ
at_least_one n = if n == 0 then 1 else n

abbrev pub entries_in : List ℕ → ℕ
entries_in b = if sections_in b == SECTION_COUNT then at_least_one (be_number b (be_number b E_SHOFF + (2 * SHDR_SIZE + SH_SIZE)) / TOE_ENTRY_SIZE) else 0

unfoldable pub places_in : List ℕ → Places
places_in b =
    let headers = be_number b E_SHOFF in
    places_with headers (be_number b (headers + (SHDR_SIZE + SH_SIZE))) (entries_in b) (at_least_one (be_number b (headers + (SHDR_SIZE * (sections_in b - 2) + SH_SIZE))))

abbrev pub image_of : List ℕ → Places → List ℕ
image_of b p = take p.image_size (drop IMAGE_ALIGN b)

-- ---- section headers, in order

abbrev pub image_row : Places → List ℕ
image_row p = section_words IMAGE_NAME IMAGE_ALIGN (data_head kinds.Const p.image_size IMAGE_ALIGN)

abbrev pub toe_row : Places → List ℕ
toe_row p = section_words TOE_NAME p.toe (data_head kinds.Vars (TOE_ENTRY_SIZE * p.entries) TOE_ENTRY_SIZE)

abbrev pub handle_row : Places → List ℕ
handle_row p = section_words HANDLE_NAME p.handle (data_head kinds.Vars HANDLE_SIZE HANDLE_ALIGN)

-- without entries there is none
abbrev pub toe_relocs_row : Places → List ℕ
toe_relocs_row p = if p.entries == 0 then [] else section_words RELOCS_NAME p.toe_relocs (relocations_head (symbols_number p.entries) 2 (RELA_SIZE * p.entries))

abbrev pub handle_relocs_row : Places → List ℕ
handle_relocs_row p = section_words (later_names p.entries) p.handle_relocs (relocations_head (symbols_number p.entries) 3 (2 * RELA_SIZE))

abbrev pub symbols_row : Places → List ℕ
symbols_row p = section_words (table_names p.entries) p.symbols (symbols_head (symbols_number p.entries + 1) (SYM_SIZE * (1 + FIRST_ENTRY + p.entries)) FIRST_ENTRY)

abbrev pub strings_row : Places → List ℕ
strings_row p = section_words (table_names p.entries + TABLE_NAME_SIZE) p.strings (strings_head p.strings_size)

abbrev pub names_row : Places → List ℕ
names_row p = section_words (table_names p.entries + 2 * TABLE_NAME_SIZE) p.names (strings_head (names_size p.entries))
