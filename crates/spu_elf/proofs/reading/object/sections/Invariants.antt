use Rattle.std.proofs.Common.{◌≡◌, ◌++◌, drop, map}
use Rattle.std.specs.List.{filter}
use Rattle.spu_elf.specs.Reading.{section_of, keeps}
use Rattle.spu_elf.proofs.reading.object.sections.Given as goal

abbrev pub invariant-loop-h : goal.invariant-loop-h
invariant-loop-h l = l.all ++ map (section_of l.bytes l.table) (filter (keeps l.table) (drop l.h-index l.headers)) ≡ map (section_of l.bytes l.table) (filter (keeps l.table) l.headers)
