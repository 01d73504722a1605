-- What files in memory hold, and how they count their calls.
use Rattle.std.specs.Prelude.{ℕ, List}
use Rattle.spu_io.specs.Outside.{Names, Last}
use Rattle.spu_io.specs.NameTable.{names_of}
use Rattle.spu_io.specs.FaultLog.{logged_count, logged_last}
use Rattle.spu_io.specs.declared.memory.MemFiles.{MemFiles}

-- what each name holds
abbrev pub held_names : MemFiles → Names
held_names files = names_of files.names

-- how many calls of `read` and `write` there were, up to the last value of 64 bits
abbrev pub call_count : MemFiles → ℕ
call_count files = files.calls

-- how many of them failed
abbrev pub fault_count : MemFiles → ℕ
fault_count files = logged_count files.log

-- the last one that failed
abbrev pub last_fault : MemFiles → Last
last_fault files = logged_last files.log

-- the numbers of the calls that fail
abbrev pub failing_calls : MemFiles → List ℕ
failing_calls files = files.fails
