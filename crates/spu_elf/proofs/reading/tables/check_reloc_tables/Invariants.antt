use Rattle.std.proofs.Common.{◌≡◌, drop}
use Rattle.spu_elf.specs.Checks.{each}
use Rattle.spu_elf.specs.Reading.{reloc_table_checks}
use Rattle.spu_elf.proofs.reading.tables.check_reloc_tables.Given as goal

abbrev pub invariant-loop-h : goal.invariant-loop-h
invariant-loop-h l = each (reloc_table_checks l.headers) (drop l.h-index l.tables) ≡ each (reloc_table_checks l.headers) l.tables
