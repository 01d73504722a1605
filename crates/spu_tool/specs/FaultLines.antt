-- The lines of faults: the number and the name of each, and where it is.
use Rattle.std.specs.Prelude.{ℕ, List, ◌++◌, [], codes}
use Rattle.std.specs.Fmt.{decimal}
use Rattle.spu_asm.specs.declared.faults.AsmKind.{AsmKind}
use Rattle.spu_asm.specs.declared.faults.AsmKind.TheVariants as asm
use Rattle.spu_elf.specs.declared.faults.ElfKind.{ElfKind}
use Rattle.spu_elf.specs.declared.faults.ElfKind.TheVariants as elf
use Rattle.spu_word.specs.declared.load.LoadFault.{LoadFault}
use Rattle.spu_word.specs.declared.load.LoadFault.TheVariants as loads
use Rattle.spu_cesof.specs.declared.faults.CesofFault.{CesofFault}
use Rattle.spu_cesof.specs.declared.faults.CesofFault.TheVariants as cesof

abbrev pub asm_name : AsmKind → List ℕ
asm_name asm.NotAscii = codes "A1 NotAscii"
asm_name asm.LineTooLong = codes "A2 LineTooLong"
asm_name asm.BadNumber = codes "A3 BadNumber"
asm_name asm.UnknownMnemonic = codes "A4 UnknownMnemonic"
asm_name asm.BadOperand = codes "A5 BadOperand"
asm_name asm.Range = codes "A6 Range"
asm_name asm.DuplicateLabel = codes "A7 DuplicateLabel"
asm_name asm.BadDirective = codes "A8 BadDirective"
asm_name asm.SectionTooLarge = codes "A9 SectionTooLarge"
asm_name asm.TooLarge = codes "A10 TooLarge"

abbrev pub elf_name : ElfKind → List ℕ
elf_name elf.Truncated = codes "E1 Truncated"
elf_name elf.NotElf = codes "E2 NotElf"
elf_name elf.WrongClass = codes "E3 WrongClass"
elf_name elf.WrongMachine = codes "E4 WrongMachine"
elf_name elf.WrongKind = codes "E5 WrongKind"
elf_name elf.BadTable = codes "E6 BadTable"
elf_name elf.BadName = codes "E7 BadName"
elf_name elf.BadSymbol = codes "E8 BadSymbol"
elf_name elf.BadReloc = codes "E9 BadReloc"
elf_name elf.Compressed = codes "E10 Compressed"
elf_name elf.TooLarge = codes "E11 TooLarge"

-- a text's fault, at a line
abbrev pub asm_line : AsmKind → ℕ → List ℕ
asm_line kind line = asm_name kind ++ codes " " ++ decimal line ++ codes "\n"

-- a file's fault, at an offset; the file is named as the words name it
abbrev pub elf_line : ElfKind → List ℕ → ℕ → List ℕ
elf_line kind file offset = elf_name kind ++ codes " " ++ file ++ codes " " ++ decimal offset ++ codes "\n"

-- why an executable could not be loaded; want of memory has no line
abbrev pub name_line : List ℕ → List ℕ → List ℕ
name_line what name = what ++ name ++ codes "\n"

abbrev pub load_line : LoadFault → List ℕ
load_line (loads.UnresolvedName name) = name_line (codes "M1 UnresolvedName ") name
load_line (loads.AreasOverlap name) = name_line (codes "M2 AreasOverlap ") name
load_line (loads.AreaRange name) = name_line (codes "M3 AreaRange ") name
load_line (loads.SegmentRange number) = codes "M4 SegmentRange " ++ decimal number ++ codes "\n"
load_line loads.OutOfMemory = []

-- what is wrong with an embedded executable, and the place or the size
abbrev pub cesof_line : CesofFault → List ℕ
cesof_line (cesof.NotCesof place) = codes "C1 NotCesof " ++ decimal place ++ codes "\n"
cesof_line (cesof.BadHandle place) = codes "C2 BadHandle " ++ decimal place ++ codes "\n"
cesof_line (cesof.BadToe place) = codes "C3 BadToe " ++ decimal place ++ codes "\n"
cesof_line (cesof.TooLarge size) = codes "C4 TooLarge " ++ decimal size ++ codes "\n"
cesof_line cesof.OutOfMemory = []
