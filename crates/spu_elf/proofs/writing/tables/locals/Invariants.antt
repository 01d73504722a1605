use Rattle.std.proofs.Common.{◌≡◌, ◌+◌, drop}
use Rattle.spu_elf.specs.Spelling.{locals}
use Rattle.spu_elf.proofs.writing.tables.locals.Given as goal

abbrev pub invariant-loop-i : goal.invariant-loop-i
invariant-loop-i l = l.i + locals (drop l.i l.s-items) ≡ locals l.symbols
