use Rattle.std.proofs.Common.{◌≡◌, ◌++◌, drop}
use Rattle.spu_elf.specs.Executables.{symbols_in}
use Rattle.spu_elf.proofs.reading.executable.symbols_in.Given as goal

abbrev pub invariant-loop-y : goal.invariant-loop-y
invariant-loop-y l = l.all ++ symbols_in l.rest (drop l.y-index l.listed) ≡ symbols_in l.names l.listed
