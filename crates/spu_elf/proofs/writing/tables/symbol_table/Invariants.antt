use Rattle.std.proofs.Common.{◌≡◌, take}
use Rattle.spu_elf.specs.Spelling.{symbol_table}
use Rattle.spu_elf.specs.Views.{symbols_of}
use Rattle.spu_elf.proofs.writing.tables.symbol_table.Given as goal

abbrev pub invariant-loop-s : goal.invariant-loop-s
invariant-loop-s l = symbols_of l.table ≡ symbol_table (take l.s-index l.symbols)
