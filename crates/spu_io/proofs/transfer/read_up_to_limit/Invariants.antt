use Rattle.std.proofs.Common.{length, ◌+◌, ◌≤◌}
use Rattle.std.specs.Io.KnownBytes.{Consumes}
use Rattle.spu_word.specs.declared.limits.TheConstants.{MAX_FILE_SIZE}
use Rattle.spu_io.proofs.transfer.read_up_to_limit.Given as goal

abbrev pub invariant-loop : goal.invariant-loop
invariant-loop g l = (length l.bytes ≤ MAX_FILE_SIZE + 1) × Consumes (g.R.Read.remaining l.initial.reader) (g.R.Read.remaining l.reader) l.bytes
