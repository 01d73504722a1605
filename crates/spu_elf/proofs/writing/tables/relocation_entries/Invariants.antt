use Rattle.std.proofs.Common.{◌≡◌, take}
use Rattle.std.specs.List.{flat_map}
use Rattle.spu_elf.specs.Spelling.{relocation}
use Rattle.spu_elf.proofs.writing.tables.relocation_entries.Given as goal

abbrev pub invariant-loop-r : goal.invariant-loop-r
invariant-loop-r l = l.entries ≡ flat_map relocation (take l.r-index l.relocs)
