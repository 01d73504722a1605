use Rattle.std.proofs.Common.{◌≡◌, ◌+◌, ◌≤◌, drop, length}
use Rattle.spu_elf.specs.Executables.{names_check}
use Rattle.spu_elf.proofs.reading.executable_symbols.check_names.Given as goal

abbrev pub invariant-loop-symbol : goal.invariant-loop-symbol
invariant-loop-symbol l = record {
  checks : names_check l.at l.rest (drop l._symbol-index l.listed) ≡ names_check l.from l.names l.listed;
  near : l.at + length l.rest ≤ l.from + length l.names + l._symbol-index;
}
