-- The numbers and names of the faults of files, as they are printed.
use Rattle.std.specs.Prelude.{ℕ, List, ◌++◌, codes}
use Rattle.std.specs.Fmt.{decimal}
use Rattle.spu_elf.specs.declared.faults.ElfKind.{ElfKind}
use Rattle.spu_elf.specs.declared.faults.ElfKind.TheVariants as kinds

abbrev pub number_of : ElfKind → ℕ
number_of kinds.Truncated = 1
number_of kinds.NotElf = 2
number_of kinds.WrongClass = 3
number_of kinds.WrongMachine = 4
number_of kinds.WrongKind = 5
number_of kinds.BadTable = 6
number_of kinds.BadName = 7
number_of kinds.BadSymbol = 8
number_of kinds.BadReloc = 9
number_of kinds.Compressed = 10
number_of kinds.TooLarge = 11

abbrev pub name_of : ElfKind → List ℕ
name_of kinds.Truncated = codes "Truncated"
name_of kinds.NotElf = codes "NotElf"
name_of kinds.WrongClass = codes "WrongClass"
name_of kinds.WrongMachine = codes "WrongMachine"
name_of kinds.WrongKind = codes "WrongKind"
name_of kinds.BadTable = codes "BadTable"
name_of kinds.BadName = codes "BadName"
name_of kinds.BadSymbol = codes "BadSymbol"
name_of kinds.BadReloc = codes "BadReloc"
name_of kinds.Compressed = codes "Compressed"
name_of kinds.TooLarge = codes "TooLarge"

-- as `E6 BadTable`
abbrev pub shown : ElfKind → List ℕ
shown kind = codes "E" ++ decimal (number_of kind) ++ codes " " ++ name_of kind
