-- The rows of an ELF file: the words of its headers, which are written and checked alike. System V ELF, "Object Files" and
-- "Program Loading", with the numbers of the SPU ABI. All numbers are big-endian.
use Rattle.std.specs.Prelude.{ℕ, ◌+◌, ◌-◌, ◌*◌, ◌%◌, Bool, List, [], ◌∷◌, ◌++◌, length, replicate, codes, if◌then◌else◌, ◌==◌}
use Rattle.std.specs.List.{flat_map}
use Rattle.std.specs.Fmt.{decimal}
use Rattle.spu_word.specs.Bytes.{be_digits, be_half_digits}
use Rattle.spu_elf.specs.declared.constants.TheConstants.{EHDR_SIZE, EI_CURRENT, EI_PAD_SIZE, ELFCLASS32, ELFDATA2MSB, ELF_MAGIC, EV_CURRENT, PF_OVERLAY, PF_R, PF_W, PF_X, PHDR_SIZE, PT_LOAD, RELA_SIZE, SEGMENT_ALIGN, SHDR_SIZE, SHF_ALLOC, SHF_EXECINSTR, SHF_WRITE, SHN_ABS, SHN_UNDEF, SHT_NOBITS, SHT_PROGBITS, SHT_RELA, SHT_STRTAB, SHT_SYMTAB, STB_GLOBAL, STT_FUNC, STT_NOTYPE, STT_OBJECT, STT_SECTION, ST_BIND, SYM_SIZE, TABLE_ALIGN}
use Rattle.spu_elf.specs.declared.rows.Head.{Head}
use Rattle.spu_elf.specs.declared.objects.Section.{Section}
use Rattle.spu_elf.specs.declared.objects.SecKind.{SecKind}
use Rattle.spu_elf.specs.declared.objects.SecKind.TheVariants as kinds
use Rattle.spu_elf.specs.declared.objects.SymKind.{SymKind}
use Rattle.spu_elf.specs.declared.objects.SymKind.TheVariants as names
use Rattle.spu_elf.specs.declared.objects.SymPlace.{SymPlace}
use Rattle.spu_elf.specs.declared.objects.SymPlace.TheVariants as places

-- how many zeros lead to the next multiple
abbrev pub padding : ℕ → ℕ → ℕ
padding step at = (step - at % step) % step

abbrev pub aligned : ℕ → List ℕ → List ℕ
aligned step file = file ++ replicate (padding step (length file)) 0

-- where a segment begins, when the bytes before it end there
abbrev pub begins : ℕ → ℕ
begins at = at + padding SEGMENT_ALIGN at

-- where the first segment may begin: behind the header and n program headers
abbrev pub front_size : ℕ → ℕ
front_size n = EHDR_SIZE + PHDR_SIZE * n

-- ---- the header of a file

-- its words from the version on, and its halfwords behind them
abbrev pub front_words : ℕ → ℕ → ℕ → List ℕ
front_words entry phoff shoff = EV_CURRENT ∷ entry ∷ phoff ∷ shoff ∷ 0 ∷ []

abbrev pub front_halves : ℕ → ℕ → ℕ → List ℕ
front_halves phentsize phnum shnum = EHDR_SIZE ∷ phentsize ∷ phnum ∷ SHDR_SIZE ∷ shnum ∷ (shnum - 1) ∷ []

abbrev pub elf_header : ℕ → ℕ → ℕ → ℕ → ℕ → ℕ → ℕ → ℕ → List ℕ
elf_header machine kind entry phoff shoff phentsize phnum shnum =
    (be_digits ELF_MAGIC ++ ELFCLASS32 ∷ ELFDATA2MSB ∷ EI_CURRENT ∷ replicate EI_PAD_SIZE 0)
    ++ flat_map be_half_digits (kind ∷ machine ∷ []) ++ flat_map be_digits (front_words entry phoff shoff)
    ++ flat_map be_half_digits (front_halves phentsize phnum shnum)

-- ---- section headers

abbrev pub section_words : ℕ → ℕ → Head → List ℕ
section_words name offset h = name ∷ h.kind ∷ h.flags ∷ h.address ∷ offset ∷ h.size ∷ h.link ∷ h.info ∷ h.align ∷ h.entry_size ∷ []

abbrev pub section_type : SecKind → ℕ
section_type kinds.Code = SHT_PROGBITS
section_type kinds.Const = SHT_PROGBITS
section_type kinds.Vars = SHT_PROGBITS
section_type kinds.Zero = SHT_NOBITS

abbrev pub section_flags : SecKind → ℕ
section_flags kinds.Code = SHF_ALLOC + SHF_EXECINSTR
section_flags kinds.Const = SHF_ALLOC
section_flags kinds.Vars = SHF_ALLOC + SHF_WRITE
section_flags kinds.Zero = SHF_ALLOC + SHF_WRITE

abbrev pub data_head : SecKind → ℕ → ℕ → Head
data_head kind size align = record { kind = section_type kind; flags = section_flags kind; address = 0; size = size; link = 0; info = 0; align = align; entry_size = 0 }

abbrev pub section_head : Section → Head
section_head s = data_head s.kind s.size s.align

-- a segment of this address and size: the first is written, all others are overlays
abbrev pub segment_head : ℕ → ℕ → ℕ → Head
segment_head k address size = record { kind = SHT_PROGBITS; flags = if k == 0 then SHF_ALLOC + SHF_EXECINSTR + SHF_WRITE else SHF_ALLOC + SHF_EXECINSTR; address = address; size = size; link = 0; info = 0; align = SEGMENT_ALIGN; entry_size = 0 }

abbrev pub table_head : ℕ → ℕ → ℕ → ℕ → ℕ → ℕ → Head
table_head kind size link info align entry_size = record { kind = kind; flags = 0; address = 0; size = size; link = link; info = info; align = align; entry_size = entry_size }

-- of a symbol table, with the number of its string table and the number of its first global symbol
abbrev pub symbols_head : ℕ → ℕ → ℕ → Head
symbols_head strings size info = table_head SHT_SYMTAB size strings info TABLE_ALIGN SYM_SIZE

abbrev pub strings_head : ℕ → Head
strings_head size = table_head SHT_STRTAB size 0 0 1 0

-- of the relocations of the section with this number, with the number of the symbol table
abbrev pub relocations_head : ℕ → ℕ → ℕ → Head
relocations_head symbols target size = table_head SHT_RELA size symbols target TABLE_ALIGN RELA_SIZE

-- ---- program headers

-- of a segment, where the bytes before it end at `at`
abbrev pub program_words : ℕ → ℕ → ℕ → Bool → List ℕ
program_words at address size overlay = PT_LOAD ∷ begins at ∷ address ∷ address ∷ size ∷ size ∷ (if overlay then PF_OVERLAY + PF_R + PF_X else PF_R + PF_W + PF_X) ∷ SEGMENT_ALIGN ∷ []

-- ---- names in string tables

-- A name ends with a zero byte, and an empty one takes none. The place of an empty name is 0.
abbrev pub ended : List ℕ → List ℕ
ended [] = []
ended (c ∷ cs) = c ∷ cs ++ 0 ∷ []

abbrev pub name_place : List ℕ → List ℕ → ℕ
name_place table [] = 0
name_place table (c ∷ cs) = length table

abbrev pub segment_name : ℕ → List ℕ
segment_name k = if k == 0 then codes ".root" else codes ".r" ++ decimal k

-- ---- symbols

abbrev pub kind_number : SymKind → ℕ
kind_number names.Plain = STT_NOTYPE
kind_number names.Object = STT_OBJECT
kind_number names.Function = STT_FUNC
kind_number names.Section = STT_SECTION

abbrev pub symbol_info : Bool → SymKind → ℕ
symbol_info global kind = (if global then STB_GLOBAL * ST_BIND else 0) + kind_number kind

abbrev pub place_number : SymPlace → ℕ
place_number places.Undefined = SHN_UNDEF
place_number places.Absolute = SHN_ABS
place_number (places.Inside k) = k + 1
