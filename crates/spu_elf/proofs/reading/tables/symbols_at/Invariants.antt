use Rattle.std.proofs.Common.{◌≡◌, ◌+◌, drop}
use Rattle.spu_elf.specs.Reading.{symbols_at}
use Rattle.spu_elf.proofs.reading.tables.symbols_at.Given as goal

abbrev pub invariant-loop-k : goal.invariant-loop-k
invariant-loop-k l = l.k + symbols_at (drop l.k l.headers) ≡ symbols_at l.headers
