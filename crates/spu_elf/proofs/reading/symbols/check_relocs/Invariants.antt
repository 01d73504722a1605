use Rattle.std.proofs.Common.{◌≡◌, drop}
use Rattle.spu_elf.specs.Checks.{each}
use Rattle.spu_elf.specs.Reading.{relocs_checks}
use Rattle.spu_elf.proofs.reading.symbols.check_relocs.Given as goal

abbrev pub invariant-loop-h : goal.invariant-loop-h
invariant-loop-h l = each (relocs_checks l.bytes l.headers l.symbols) (drop l.h-index l.tables) ≡ each (relocs_checks l.bytes l.headers l.symbols) l.tables
