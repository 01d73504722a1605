use Rattle.std.proofs.Common.{◌≡◌, ◌+◌, ◌*◌, ◌^◌, ◌≤◌, drop}
use Rattle.std.specs.List.{fold}
use Rattle.spu_elf.specs.Spelling.{groups}
use Rattle.spu_elf.specs.Lengths.{group_grown}
use Rattle.spu_elf.proofs.writing.lengths.groups_extent.Given as goal

abbrev pub invariant-loop-k : goal.invariant-loop-k
invariant-loop-k l = record {
  value : fold group_grown l.extent (groups l.k (drop l.k l.sections) l.rest) ≡ fold group_grown l.e (groups 0 l.sections l.relocs);
  file : l.extent.file ≤ 2 ^ 80 + l.k * 2 ^ 68;
  heads : l.extent.heads ≤ 2 ^ 20 + l.k * 40;
  names : l.extent.names ≤ 2 ^ 80 + l.k * 2 ^ 64;
}
