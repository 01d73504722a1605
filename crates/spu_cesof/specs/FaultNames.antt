-- The numbers and names of the faults, as they are printed.
use Rattle.std.specs.Prelude.{ℕ, List, codes}
use Rattle.spu_cesof.specs.declared.faults.CesofFault.{CesofFault}
use Rattle.spu_cesof.specs.declared.faults.CesofFault.TheVariants as faults

abbrev pub number_of : CesofFault → ℕ
number_of (faults.NotCesof place) = 1
number_of (faults.BadHandle place) = 2
number_of (faults.BadToe place) = 3
number_of (faults.TooLarge size) = 4
number_of faults.OutOfMemory = 0

abbrev pub name_of : CesofFault → List ℕ
name_of (faults.NotCesof place) = codes "NotCesof"
name_of (faults.BadHandle place) = codes "BadHandle"
name_of (faults.BadToe place) = codes "BadToe"
name_of (faults.TooLarge size) = codes "TooLarge"
name_of faults.OutOfMemory = codes "OutOfMemory"
