-- What is known of files and of a sink: what each name holds, which call failed last, and how a call
-- may change them. A name is its bytes.
use Rattle.std.specs.Prelude.{◌≡◌, ◌≢◌, ℕ, ◌+◌, ◌-◌, ◌^◌, min, ◌++◌, List, Option, Some, None, Result, Ok, Err, take}
use Rattle.spu_word.specs.declared.limits.TheConstants.{MAX_FILE_SIZE}
use Rattle.spu_io.specs.declared.faults.FileFault.{FileFault}
use Rattle.spu_io.specs.declared.faults.FileFault.TheVariants as file
use Rattle.spu_io.specs.declared.faults.SinkFault.{SinkFault}
use Rattle.spu_io.specs.declared.faults.SinkFault.TheVariants as sink

-- what each name holds, if anything
abbrev pub Names : Type 0
Names = List ℕ → Option (List ℕ)

-- the last call that failed
pub data Last : Type 0 where
  Nothing : Last
  Read : (name : List ℕ) → Last
  Write : (name : List ℕ) → Last

-- one more, up to the last value of 64 bits, where a count stays
abbrev pub next_count : ℕ → ℕ
next_count count = min (count + 1) (2 ^ 64 - 1)

-- a count rose by exactly one, or stood at its last value
abbrev pub Rose : ℕ → ℕ → Type 0
Rose before now = now ≡ next_count before

-- what a call that answered so did to the count of faults and the last fault: it answers Failed only
-- where the count rose, and is then the last fault itself; any other call leaves both
abbrev pub Counted : {T : Type 0} → Result T FileFault → Last → ℕ → ℕ → Last → Last → Type 0
Counted (Ok value) call before now last last_now = (now ≡ before) × (last_now ≡ last)
Counted (Err file.Failed) call before now last last_now = Rose before now × (last_now ≡ call)
Counted (Err file.OutOfMemory) call before now last last_now = (now ≡ before) × (last_now ≡ last)

-- the same of a put, which keeps no name
abbrev pub PutCounted : {T : Type 0} → Result T SinkFault → ℕ → ℕ → Type 0
PutCounted (Ok value) before now = now ≡ before
PutCounted (Err sink.Failed) before now = Rose before now
PutCounted (Err sink.OutOfMemory) before now = now ≡ before

-- a read gave the first bytes of what is held: all of a file, or one byte more than a file may have
abbrev pub Cut : Option (List ℕ) → List ℕ → Type 0
Cut None bytes = Unit {0}
Cut (Some held) bytes = bytes ≡ take (MAX_FILE_SIZE + 1) held

-- the same, of a name, where it is told what names hold
abbrev pub ReadOf : Option Names → List ℕ → List ℕ → Type 0
ReadOf None name bytes = Unit {0}
ReadOf (Some names) name bytes = Cut (names name) bytes

-- every other name holds what it held
abbrev pub Others : Names → Names → List ℕ → Type 0
Others before now name = (other : List ℕ) → other ≢ name → now other ≡ before other

-- the name holds these bytes, and every other name what it held
pub record Replaced (before now : Names) (name bytes : List ℕ) : Type 0 where
  pub held : now name ≡ Some bytes
  pub others : Others before now name

-- a write put these bytes, where it is told what names hold
abbrev pub Wrote : Option Names → Option Names → List ℕ → List ℕ → Type 0
Wrote None now name bytes = Unit {0}
Wrote (Some before) None name bytes = ⊥
Wrote (Some before) (Some now) name bytes = Replaced before now name bytes

-- a write spoiled this name, and no other
abbrev pub Spoiled : Option Names → Option Names → List ℕ → Type 0
Spoiled None now name = Unit {0}
Spoiled (Some before) None name = ⊥
Spoiled (Some before) (Some now) name = Others before now name

-- what a write that answered so did to what names hold
abbrev pub Written : {T : Type 0} → Result T FileFault → Option Names → Option Names → List ℕ → List ℕ → Type 0
Written (Ok value) before now name bytes = Wrote before now name bytes
Written (Err file.Failed) before now name bytes = Spoiled before now name
Written (Err file.OutOfMemory) before now name bytes = now ≡ before

-- a piece was put at the end, where it is told what was put
abbrev pub Gained : Option (List ℕ) → Option (List ℕ) → List ℕ → Type 0
Gained None now piece = Unit {0}
Gained (Some before) None piece = ⊥
Gained (Some before) (Some now) piece = now ≡ before ++ piece

-- a prefix of the piece was put
abbrev pub GainedPrefix : Option (List ℕ) → Option (List ℕ) → List ℕ → Type 0
GainedPrefix None now piece = Unit {0}
GainedPrefix (Some before) None piece = ⊥
GainedPrefix (Some before) (Some now) piece = (n : ℕ) × (now ≡ before ++ take n piece)
