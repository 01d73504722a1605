use Rattle.std.proofs.Common.{◌≡◌, drop}
use Rattle.spu_elf.specs.Checks.{each}
use Rattle.spu_elf.specs.Reading.{symbol_checks}
use Rattle.spu_elf.proofs.reading.symbols.check_symbols.Given as goal

abbrev pub invariant-loop-y : goal.invariant-loop-y
invariant-loop-y l = each (symbol_checks l.headers l.numbers l.table) (drop l.y-index l.entries) ≡ each (symbol_checks l.headers l.numbers l.table) l.entries
