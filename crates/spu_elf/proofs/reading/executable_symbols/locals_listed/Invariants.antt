use Rattle.std.proofs.Common.{◌≡◌, ◌+◌, drop}
use Rattle.spu_elf.specs.Executables.{locals_listed}
use Rattle.spu_elf.proofs.reading.executable_symbols.locals_listed.Given as goal

abbrev pub invariant-loop-i : goal.invariant-loop-i
invariant-loop-i l = l.i + locals_listed (drop l.i l.listed) ≡ locals_listed l.listed
