-- What a call of the tool does: the status that it answers, the file that it writes, and the text that it puts, by its words
-- and by the bytes of its files. Words are judged first; then all files are read, in order; then they are judged, then the
-- output file is written, and last the text is put.
use Rattle.std.specs.Prelude.{◌≡◌, ◌≢◌, ℕ, ◌++◌, ◌∷◌, [], ◌⊎◌, List, Option, Some, None, Result, Ok, Err, Contains, codes}
use Rattle.std.specs.Fmt.{decimal}
use Rattle.spu_io.specs.declared.faults.FileFault.{FileFault}
use Rattle.spu_io.specs.declared.faults.FileFault.TheVariants as file
use Rattle.spu_io.specs.Outside.{Names, Last, Read, Write, Rose, ReadOf, Wrote, Spoiled, Gained, GainedPrefix}
use Rattle.spu_tool.specs.Arguments.{Asked, asked}
use Rattle.spu_tool.specs.Makes.{MakesBy}
use Rattle.spu_tool.specs.Statuses.{number_of}
use Rattle.spu_tool.specs.declared.made.Made.{Made}
use Rattle.spu_tool.specs.declared.status.Status.{Status}
use Rattle.spu_tool.specs.declared.status.Status.TheVariants as status

-- all that is known of the outside
pub record Seen : Type 0 where
  pub held : Option Names
  pub faults : ℕ
  pub last : Last
  pub written : Option (List ℕ)
  pub sink_faults : ℕ

abbrev pub seen : Option Names → ℕ → Last → Option (List ℕ) → ℕ → Seen
seen held faults last written sink_faults =
    record { held = held; faults = faults; last = last; written = written; sink_faults = sink_faults }

-- the files' faults are as before, and so are the sink's
pub record FilesWell (a b : Seen) : Type 0 where
  pub faults : b.faults ≡ a.faults
  pub last : b.last ≡ a.last

abbrev pub SinkWell : Seen → Seen → Type 0
SinkWell a b = b.sink_faults ≡ a.sink_faults

-- a file that is made is held by the output's name, and all other names stand; where none is made, all names stand
abbrev pub HoldsFile : Option (List ℕ) → Option (List ℕ) → Option Names → Option Names → Type 0
HoldsFile (Some file) (Some output) before now = Wrote before now output file
HoldsFile (Some file) None before now = now ≡ before
HoldsFile None output before now = now ≡ before

-- ---- how a command ends that has made its file and its text

-- both are where they belong
pub record IsDone (m : Made) (output : Option (List ℕ)) (answer : Status) (a b : Seen) : Type 0 where
  pub answered : answer ≡ m.status
  pub file : HoldsFile m.file output a.held b.held
  pub text : Gained a.written b.written m.text
  pub files : FilesWell a b
  pub sink : SinkWell a b

-- the file could not be written; nothing is known of its name, all others stand, and nothing was put
pub record IsUnwritten (m : Made) (output : Option (List ℕ)) (answer : Status) (a b : Seen) : Type 0 where
  pub file : List ℕ
  pub name : List ℕ
  pub made : m.file ≡ Some file
  pub named : output ≡ Some name
  pub answered : answer ≡ status.WriteFault
  pub rose : Rose a.faults b.faults
  pub last : b.last ≡ Write name
  pub spoiled : Spoiled a.held b.held name
  pub text : b.written ≡ a.written
  pub sink : SinkWell a b

-- the text could not be put; the file is written
pub record IsUnput (m : Made) (output : Option (List ℕ)) (answer : Status) (a b : Seen) : Type 0 where
  pub some : m.text ≢ []
  pub answered : answer ≡ status.WriteFault
  pub rose : Rose a.sink_faults b.sink_faults
  pub file : HoldsFile m.file output a.held b.held
  pub text : GainedPrefix a.written b.written m.text
  pub files : FilesWell a b

-- memory ran out before anything was written or put
pub record IsEarly (answer : Status) (a b : Seen) : Type 0 where
  pub answered : answer ≡ status.OutOfMemory
  pub held : b.held ≡ a.held
  pub text : b.written ≡ a.written
  pub files : FilesWell a b
  pub sink : SinkWell a b

-- memory ran out in the put; the file is written
pub record IsLate (m : Made) (output : Option (List ℕ)) (answer : Status) (a b : Seen) : Type 0 where
  pub some : m.text ≢ []
  pub answered : answer ≡ status.OutOfMemory
  pub file : HoldsFile m.file output a.held b.held
  pub text : GainedPrefix a.written b.written m.text
  pub files : FilesWell a b
  pub sink : SinkWell a b

pub data Concludes (m : Made) (output : Option (List ℕ)) (answer : Status) (a b : Seen) : Type 0 where
  done : IsDone m output answer a b → Concludes m output answer a b
  unwritten : IsUnwritten m output answer a b → Concludes m output answer a b
  unput : IsUnput m output answer a b → Concludes m output answer a b
  unheld : IsEarly answer a b → Concludes m output answer a b
  late : IsLate m output answer a b → Concludes m output answer a b

-- ---- what a command does: it reads its files, makes its file and its text of their bytes, and ends

-- the bytes of files, one after another
abbrev pub AreRead : Option Names → List (List ℕ) → List (List ℕ) → Type 0
AreRead held [] [] = Unit {0}
AreRead held (name ∷ names) (bytes ∷ files) = ReadOf held name bytes × AreRead held names files
AreRead held [] (bytes ∷ files) = ⊥
AreRead held (name ∷ names) [] = ⊥

-- the bytes of its files, and what is made of them
pub record HasMade (asked : Asked) (a : Seen) (m : Made) : Type 0 where
  pub files : List (List ℕ)
  pub read : AreRead a.held asked.inputs files
  pub made : MakesBy asked.action asked.inputs files m

-- an input could not be read; nothing was written or put
pub record IsUnread (inputs : List (List ℕ)) (answer : Status) (a b : Seen) : Type 0 where
  pub answered : answer ≡ status.ReadFault
  pub rose : Rose a.faults b.faults
  pub name : List ℕ
  pub among : Contains inputs name
  pub last : b.last ≡ Read name
  pub held : b.held ≡ a.held
  pub text : b.written ≡ a.written
  pub sink : SinkWell a b

pub data Outcome (asked : Asked) (answer : Status) (a b : Seen) : Type 0 where
  unread : IsUnread asked.inputs answer a b → Outcome asked answer a b
  early : IsEarly answer a b → Outcome asked answer a b
  concluded : (m : Made) → HasMade asked a m → Concludes m asked.output answer a b → Outcome asked answer a b

-- what reads of these files, of which the first that failed ended them, did to the count of faults and the last fault
abbrev pub ReadsCounted : {T : Type 0} → Result T FileFault → List (List ℕ) → ℕ → ℕ → Last → Last → Type 0
ReadsCounted (Ok value) names before now last last_now = (now ≡ before) × (last_now ≡ last)
ReadsCounted (Err file.Failed) names before now last last_now =
    Rose before now × ((name : List ℕ) × Contains names name × (last_now ≡ Read name))
ReadsCounted (Err file.OutOfMemory) names before now last last_now = (now ≡ before) × (last_now ≡ last)

-- ---- a faulty word

-- a put of this text with this status: done, or, where there is some text, failed or out of memory after a prefix
abbrev pub Puts : Status → List ℕ → Status → Option (List ℕ) → Option (List ℕ) → ℕ → ℕ → Type 0
Puts wanted text answer before now faults faults_now =
    ((answer ≡ wanted) × Gained before now text × (faults_now ≡ faults))
    ⊎ (((text ≢ []) × (answer ≡ status.WriteFault) × Rose faults faults_now × GainedPrefix before now text)
    ⊎ ((text ≢ []) × (answer ≡ status.OutOfMemory) × (faults_now ≡ faults) × GainedPrefix before now text))

abbrev pub words_line : ℕ → List ℕ
words_line n = codes "words " ++ decimal n ++ 10 ∷ []

-- its line is put, and no file is touched
pub record IsFaulty (n : ℕ) (answer : Status) (a b : Seen) : Type 0 where
  pub held : b.held ≡ a.held
  pub files : FilesWell a b
  pub put : Puts status.Words (words_line n) answer a.written b.written a.sink_faults b.sink_faults

-- ---- by the words

abbrev pub OutcomeBy : Result Asked ℕ → Status → Seen → Seen → Type 0
OutcomeBy (Ok asked) answer a b = Outcome asked answer a b
OutcomeBy (Err number) answer a b = IsFaulty number answer a b

abbrev pub OutcomeOf : List (List ℕ) → Status → Seen → Seen → Type 0
OutcomeOf words answer a b = OutcomeBy (asked words) answer a b

-- what the program ends with: the number of the status, or that of want of memory where there was none for the words
abbrev pub EndsWith : Option (List (List ℕ)) → Status → ℕ → Seen → Seen → Type 0
EndsWith None answer code a b = (answer ≡ status.OutOfMemory) × (code ≡ number_of answer) × (b ≡ a)
EndsWith (Some words) answer code a b = OutcomeOf words answer a b × (code ≡ number_of answer)
