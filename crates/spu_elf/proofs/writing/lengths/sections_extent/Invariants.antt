use Rattle.std.proofs.Common.{◌≡◌, ◌+◌, ◌*◌, ◌^◌, ◌≤◌, take}
use Rattle.std.specs.List.{fold}
use Rattle.spu_elf.specs.Lengths.{section_grown}
use Rattle.spu_elf.proofs.writing.lengths.sections_extent.Given as goal

abbrev pub invariant-loop-s : goal.invariant-loop-s
invariant-loop-s l = record {
  value : l.extent ≡ fold section_grown l.e (take l.s-index l.sections);
  file : l.extent.file ≤ 1000 + l.s-index * 2 ^ 64;
  heads : l.extent.heads ≤ 1000 + l.s-index * 40;
  names : l.extent.names ≤ 1000 + l.s-index * 2 ^ 64;
}
