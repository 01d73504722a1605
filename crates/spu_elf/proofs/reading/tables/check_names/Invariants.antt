use Rattle.std.proofs.Common.{◌≡◌, drop}
use Rattle.spu_elf.specs.Checks.{each}
use Rattle.spu_elf.specs.Reading.{name_checks}
use Rattle.spu_elf.proofs.reading.tables.check_names.Given as goal

abbrev pub invariant-loop-h : goal.invariant-loop-h
invariant-loop-h l = each (name_checks l.table) (drop l.h-index l.headers) ≡ each (name_checks l.table) l.headers
