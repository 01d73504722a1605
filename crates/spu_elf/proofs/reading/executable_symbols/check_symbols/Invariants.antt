use Rattle.std.proofs.Common.{◌≡◌, ◌+◌, ◌≤◌, false, drop, length}
use Rattle.spu_elf.specs.Executables.{symbols_check}
use Rattle.spu_elf.proofs.reading.executable_symbols.check_symbols.Given as goal

abbrev pub invariant-loop-y : goal.invariant-loop-y
invariant-loop-y l = record {
  checks : symbols_check l.bytes l.n l.end l.at l.seen l.rest (drop l.y-index l.listed) ≡ symbols_check l.bytes l.n l.end 1 false l.names l.listed;
  near : l.at + length l.rest ≤ 1 + length l.names + l.y-index;
}
