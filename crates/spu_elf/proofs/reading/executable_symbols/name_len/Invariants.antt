use Rattle.std.proofs.Common.{◌≡◌, ◌+◌, drop}
use Rattle.spu_elf.specs.Executables.{name_len}
use Rattle.spu_elf.proofs.reading.executable_symbols.name_len.Given as goal

abbrev pub invariant-loop-i : goal.invariant-loop-i
invariant-loop-i l = l.i + name_len (drop l.i l.rest) ≡ name_len l.rest
