-- The count of the calls that failed, and the last of them.
use Rattle.std.specs.Prelude.{ℕ, string_bytes}
use Rattle.spu_io.specs.Outside.{Last, Nothing, Read, Write}
use Rattle.spu_io.specs.declared.fault_log.LastFault.{LastFault}
use Rattle.spu_io.specs.declared.fault_log.LastFault.TheVariants as last
use Rattle.spu_io.specs.declared.fault_log.FaultLog.{FaultLog}

-- the call that a kept fault names
abbrev pub last_of : LastFault → Last
last_of last.Nothing = Nothing
last_of (last.Read name) = Read (string_bytes name)
last_of (last.Write name) = Write (string_bytes name)

abbrev pub logged_count : FaultLog → ℕ
logged_count log = log.count

abbrev pub logged_last : FaultLog → Last
logged_last log = last_of log.last
