-- Reading an object in which an executable is embedded: its parts, and the first field, in the order below, that isn't as the embedding
-- of those parts has it. System V ELF, "Object Files"; CBE Embedded SPU Object Format, "Embedding".
use Rattle.std.specs.Prelude.{ℕ, zero, suc, ◌+◌, ◌-◌, ◌*◌, not, ◌&&◌, List, [], ◌∷◌, ◌++◌, length, take, drop, replicate, Option, Some, None, nat_lt, nat_le, ◌==◌}
use Rattle.std.specs.List.{flat_map}
use Rattle.spu_word.specs.Bytes.{be_number}
use Rattle.spu_elf.specs.declared.constants.TheConstants.{EHDR_SIZE, EI_PAD, EI_PAD_SIZE, EM_PPC, ET_REL, E_EHSIZE, E_SHOFF, E_VERSION, SECTION_STEP, SHDR_SIZE, SH_ADDRALIGN, SH_INFO, SH_SIZE, ST_INFO, ST_SHNDX, SYM_SIZE, TABLE_ALIGN}
use Rattle.spu_elf.specs.Rows.{padding, front_words, front_halves, symbol_info, place_number}
use Rattle.spu_elf.specs.Spelling.{relocation}
use Rattle.spu_elf.specs.Checks.{fails, ◌then_check◌, byte_check, half_check, word_check, bytes_check, halves_check, words_check, zeros_check}
use Rattle.spu_elf.specs.Reading.{ident_checks}
use Rattle.spu_elf.specs.Executables.{null_check, name_len, after_name, name_check, exec_fault, exec_in}
use Rattle.spu_elf.specs.declared.faults.ElfKind.TheVariants as kinds
use Rattle.spu_elf.specs.declared.faults.ElfFault.{ElfFault}
use Rattle.spu_elf.specs.declared.faults.ElfFault.TheVariants as elf
use Rattle.spu_elf.specs.declared.objects.Symbol.{Symbol}
use Rattle.spu_cesof.specs.declared.constants.TheConstants.{FIRST_ENTRY, IMAGE_ALIGN, TOE_ENTRY_SIZE}
use Rattle.spu_cesof.specs.declared.faults.CesofFault.{CesofFault}
use Rattle.spu_cesof.specs.declared.faults.CesofFault.TheVariants as faults
use Rattle.spu_cesof.specs.declared.places.Places.{Places}
use Rattle.spu_cesof.specs.Embedding.{entry_names, handle_bytes, handle_relocs, toe_relocs, section_symbol, named_symbols}
use Rattle.spu_cesof.specs.Outline.{section_count, symbols_number, sections_in, places_in, image_of, section_names, image_row, toe_row, handle_row, toe_relocs_row, handle_relocs_row, symbols_row, strings_row, names_row}

-- ---- the names that are read

abbrev pub names_in : List ℕ → ℕ → List (List ℕ)
names_in rest zero = []
names_in rest (suc k) = take (name_len rest) rest ∷ names_in (after_name rest) k

-- what stands in the table of names from 1 on
abbrev pub strings_in : List ℕ → Places → List ℕ
strings_in b p = drop 1 (take p.strings_size (drop p.strings b))

-- the name of the handle, and those of the entries
abbrev pub name_in : List ℕ → Places → List ℕ
name_in b p = take (name_len (strings_in b p)) (strings_in b p)

abbrev pub entry_names_in : List ℕ → Places → List (List ℕ)
entry_names_in b p = names_in (after_name (strings_in b p)) p.entries

-- names one behind the other, each with its zero byte
abbrev pub joined : List (List ℕ) → List ℕ
joined [] = []
joined (x ∷ xs) = x ++ 0 ∷ joined xs

-- ---- the header of the file, and the section headers

unfoldable pub front_check : List ℕ → Option ElfFault
front_check b =
    ident_checks EM_PPC ET_REL b
    then_check zeros_check b EI_PAD EI_PAD_SIZE
    then_check words_check b kinds.BadTable E_VERSION (front_words 0 0 (be_number b E_SHOFF))
    then_check halves_check b kinds.BadTable E_EHSIZE (front_halves 0 0 (sections_in b))

abbrev pub row_check : List ℕ → Places → ℕ → List ℕ → Option ElfFault
row_check b p k row = words_check b kinds.BadTable (p.headers + SHDR_SIZE * k) row

unfoldable pub sections_check : List ℕ → Places → Option ElfFault
sections_check b p =
    row_check b p 0 (replicate 10 0)
    then_check row_check b p 1 (image_row p)
    then_check row_check b p 2 (toe_row p)
    then_check row_check b p 3 (handle_row p)

unfoldable pub relocs_rows_check : List ℕ → Places → Option ElfFault
relocs_rows_check b p =
    row_check b p 4 (toe_relocs_row p)
    then_check row_check b p (symbols_number p.entries - 1) (handle_relocs_row p)

-- the info of the symbol table is judged after the symbols
unfoldable pub tables_check : List ℕ → Places → Option ElfFault
tables_check b p =
    let n = symbols_number p.entries in
    row_check b p n (take 7 (symbols_row p))
    then_check words_check b kinds.BadTable (p.headers + SHDR_SIZE * n + SH_ADDRALIGN) (drop 8 (symbols_row p))
    then_check row_check b p (n + 1) (strings_row p)
    then_check row_check b p (n + 2) (names_row p)

unfoldable pub heads_check : List ℕ → Places → Option ElfFault
heads_check b p =
    sections_check b p
    then_check relocs_rows_check b p
    then_check tables_check b p
    then_check fails (not (p.headers == p.end + padding TABLE_ALIGN p.end)) kinds.BadTable E_SHOFF

-- behind the header, behind the executable, and before the section headers
unfoldable pub padding_check : List ℕ → Places → Option ElfFault
padding_check b p =
    zeros_check b EHDR_SIZE (IMAGE_ALIGN - EHDR_SIZE)
    then_check zeros_check b (IMAGE_ALIGN + p.image_size) (padding SECTION_STEP (IMAGE_ALIGN + p.image_size))
    then_check zeros_check b p.end (padding TABLE_ALIGN p.end)

-- ---- symbols

-- a symbol whose name stands at `name`
unfoldable pub symbol_check : List ℕ → ℕ → ℕ → Symbol → Option ElfFault
symbol_check b place name s =
    words_check b kinds.BadSymbol place (name ∷ s.value ∷ s.size ∷ [])
    then_check bytes_check b kinds.BadSymbol (place + ST_INFO) (symbol_info s.global s.kind ∷ 0 ∷ [])
    then_check half_check b kinds.BadSymbol (place + ST_SHNDX) (place_number s.place)

-- and whose name isn't empty, and ends in its table
unfoldable pub named_check : List ℕ → Places → ℕ → ℕ → Symbol → Option ElfFault
named_check b p place at s =
    fails (nat_lt at p.strings_size && length s.name == 0) kinds.BadSymbol place
    then_check symbol_check b place at s
    then_check fails (nat_le p.strings_size (at + length s.name)) kinds.BadName p.names

abbrev pub named_checks : List ℕ → Places → ℕ → ℕ → List Symbol → Option ElfFault
named_checks b p place at [] = None
named_checks b p place at (s ∷ ss) = named_check b p place at s then_check named_checks b p (place + SYM_SIZE) (at + length s.name + 1) ss

unfoldable pub section_symbols_check : List ℕ → Places → Option ElfFault
section_symbols_check b p =
    null_check b p.symbols
    then_check symbol_check b (p.symbols + SYM_SIZE) 0 (section_symbol 0)
    then_check symbol_check b (p.symbols + 2 * SYM_SIZE) 0 (section_symbol 1)
    then_check symbol_check b (p.symbols + 3 * SYM_SIZE) 0 (section_symbol 2)

unfoldable pub symbols_check : List ℕ → Places → Option ElfFault
symbols_check b p =
    section_symbols_check b p
    then_check named_checks b p (p.symbols + SYM_SIZE * FIRST_ENTRY) 1 (named_symbols (name_in b p) (entry_names_in b p))
    then_check word_check b kinds.BadTable (p.headers + SHDR_SIZE * symbols_number p.entries + SH_INFO) FIRST_ENTRY

-- ---- string tables

-- valid names, and nothing after the last before `end`
abbrev pub names_check : ℕ → ℕ → List (List ℕ) → Option ElfFault
names_check end at [] = fails (nat_lt at end) kinds.BadName at
names_check end at (x ∷ xs) = name_check at x then_check names_check end (at + length x + 1) xs

unfoldable pub strings_check : List ℕ → Places → Option ElfFault
strings_check b p =
    byte_check b kinds.BadName p.strings 0
    then_check names_check p.names (p.strings + 1) (name_in b p ∷ entry_names_in b p)
    then_check bytes_check b kinds.BadName p.names (section_names p.entries)

abbrev pub end_check : List ℕ → ℕ → Option ElfFault
end_check b end = fails (nat_lt end (length b)) kinds.BadTable end

-- all but the contents of the three sections and their relocations
unfoldable pub object_check : List ℕ → Places → Option ElfFault
object_check b p =
    front_check b
    then_check heads_check b p
    then_check padding_check b p
    then_check symbols_check b p
    then_check strings_check b p
    then_check end_check b (p.headers + SHDR_SIZE * section_count p.entries)

-- ---- the handle and the table

unfoldable pub handle_check : List ℕ → Places → Option ElfFault
handle_check b p =
    bytes_check b kinds.BadTable p.handle handle_bytes
    then_check bytes_check b kinds.BadTable p.handle_relocs (flat_map relocation handle_relocs)

-- where the executable has entries of these names: the table's zeros, its relocations, the names as far as both have them, and last
-- their number
unfoldable pub toe_check : List ℕ → Places → List (List ℕ) → Option ElfFault
toe_check b p names =
    zeros_check b p.toe (TOE_ENTRY_SIZE * p.entries)
    then_check bytes_check b kinds.BadTable p.toe_relocs (flat_map relocation (toe_relocs 0 (entry_names_in b p)))
    then_check bytes_check b kinds.BadTable (p.strings + 1 + length (name_in b p) + 1) (joined (take p.entries names))
    then_check fails (not (p.entries == length names)) kinds.BadTable (p.headers + (2 * SHDR_SIZE + SH_SIZE))

-- ---- the whole

-- the fault of an embedded executable that the fault of a file is, at a place that is so much further
abbrev pub found : (ℕ → CesofFault) → ℕ → Option ElfFault → Option CesofFault
found fault by None = None
found fault by (Some elf.OutOfMemory) = Some faults.OutOfMemory
found fault by (Some (elf.Fault kind place)) = Some (fault (by + place))

infixr 10 ◌or_else◌
abbrev pub ◌or_else◌ : Option CesofFault → Option CesofFault → Option CesofFault
None or_else f = f
(Some e) or_else f = Some e

unfoldable pub fault_with : List ℕ → Places → Option CesofFault
fault_with b p =
    found faults.NotCesof 0 (object_check b p)
    or_else found faults.NotCesof IMAGE_ALIGN (exec_fault (image_of b p))
    or_else found faults.BadHandle 0 (handle_check b p)
    or_else found faults.BadToe 0 (toe_check b p (entry_names (exec_in (image_of b p)).symbols))

-- the first failing check of an object
abbrev pub cesof_fault : List ℕ → Option CesofFault
cesof_fault b = fault_with b (places_in b)

-- the file of the executable that it embeds
abbrev pub image_in : List ℕ → List ℕ
image_in b = image_of b (places_in b)
