-- How the files and the standard output of a system count their faults.
use Rattle.std.specs.Prelude.{ℕ}
use Rattle.spu_io.specs.Outside.{Last}
use Rattle.spu_io.specs.FaultLog.{logged_count, logged_last}
use Rattle.spu_io.specs.declared.disk.DiskFiles.{DiskFiles}
use Rattle.spu_io.specs.declared.disk.StdSink.{StdSink}

-- how many calls failed
abbrev pub disk_faults : {R : Type 0} → DiskFiles R → ℕ
disk_faults files = logged_count files.log

-- the last one that failed
abbrev pub disk_last : {R : Type 0} → DiskFiles R → Last
disk_last files = logged_last files.log

-- how many puts failed
abbrev pub output_faults : {R : Type 0} → StdSink R → ℕ
output_faults sink = sink.faults
