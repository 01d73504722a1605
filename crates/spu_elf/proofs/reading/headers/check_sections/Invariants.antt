use Rattle.std.proofs.Common.{◌≡◌, drop, take}
use Rattle.std.specs.List.{All}
use Rattle.spu_elf.specs.Bounds.{Lies}
use Rattle.spu_elf.specs.Checks.{each}
use Rattle.spu_elf.specs.Reading.{section_checks}
use Rattle.spu_elf.proofs.reading.headers.check_sections.Given as goal

abbrev pub invariant-loop-h : goal.invariant-loop-h
invariant-loop-h l = record { checks : each (section_checks l.len) (drop l.h-index l.headers) ≡ each (section_checks l.len) l.headers; lie : All (Lies l.len) (take l.h-index l.headers) }
