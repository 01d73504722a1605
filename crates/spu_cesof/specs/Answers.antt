-- What the calls answer.
use Rattle.std.specs.Prelude.{◌≡◌, ℕ, ◌<◌, ◌≤◌, List, Option, Some, None, Result, Ok, Err}
use Rattle.spu_word.specs.declared.limits.TheConstants.{MAX_FILE_SIZE}
use Rattle.spu_cesof.specs.declared.faults.CesofFault.{CesofFault}
use Rattle.spu_cesof.specs.declared.faults.CesofFault.TheVariants as faults
use Rattle.spu_cesof.specs.Embedding.{Embeds}
use Rattle.spu_cesof.specs.Unpacking.{cesof_fault, image_in}

-- what a function answered is the first fault, unless memory ran out
abbrev pub Says : {X : Type 0} → Result X CesofFault → Option CesofFault → Type 0
Says (Ok x) fault = fault ≡ None
Says (Err faults.OutOfMemory) fault = Unit {0}
Says (Err (faults.NotCesof place)) fault = fault ≡ Some (faults.NotCesof place)
Says (Err (faults.BadHandle place)) fault = fault ≡ Some (faults.BadHandle place)
Says (Err (faults.BadToe place)) fault = fault ≡ Some (faults.BadToe place)
Says (Err (faults.TooLarge size)) fault = fault ≡ Some (faults.TooLarge size)

-- an object of this many bytes is refused exactly where it has more than 4,194,304
abbrev pub IsRefusedBySize : Result (List ℕ) CesofFault → ℕ → Type 0
IsRefusedBySize (Ok e) size = size ≤ MAX_FILE_SIZE
IsRefusedBySize (Err faults.OutOfMemory) size = Unit {0}
IsRefusedBySize (Err (faults.NotCesof place)) size = ⊥
IsRefusedBySize (Err (faults.BadHandle place)) size = ⊥
IsRefusedBySize (Err (faults.BadToe place)) size = ⊥
IsRefusedBySize (Err (faults.TooLarge n)) size = (MAX_FILE_SIZE < size) × (n ≡ size)

-- the object embeds a file under some name
pub record IsEmbedded (file e : List ℕ) : Type 0 where
  pub name : List ℕ
  pub embeds : Embeds name file e

-- the object has no fault, and that file is taken out of it
pub record Unpacks (e file : List ℕ) : Type 0 where
  pub passes : cesof_fault e ≡ None
  pub image : image_in e ≡ file
