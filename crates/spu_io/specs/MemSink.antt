-- What a sink in memory holds, and how it counts its puts.
use Rattle.std.specs.Prelude.{ℕ, List}
use Rattle.spu_io.specs.declared.memory.MemSink.{MemSink}

-- what is written
abbrev pub sunk_bytes : MemSink → List ℕ
sunk_bytes sink = sink.written

-- how many puts there were, up to the last value of 64 bits
abbrev pub put_count : MemSink → ℕ
put_count sink = sink.calls

-- how many of them failed
abbrev pub sink_faults : MemSink → ℕ
sink_faults sink = sink.faults

-- the numbers of the puts that fail
abbrev pub failing_puts : MemSink → List ℕ
failing_puts sink = sink.fails
