-- What files and a sink that never fail hold.
use Rattle.std.specs.Prelude.{ℕ, List}
use Rattle.spu_io.specs.Outside.{Names}
use Rattle.spu_io.specs.NameTable.{names_of}
use Rattle.spu_io.specs.declared.quiet.QuietFiles.{QuietFiles}
use Rattle.spu_io.specs.declared.quiet.QuietSink.{QuietSink}

-- what each name holds
abbrev pub kept_names : QuietFiles → Names
kept_names files = names_of files.names

-- what is written
abbrev pub kept_bytes : QuietSink → List ℕ
kept_bytes sink = sink.written
