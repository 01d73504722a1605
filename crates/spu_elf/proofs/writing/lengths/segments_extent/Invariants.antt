use Rattle.std.proofs.Common.{◌≡◌, ◌+◌, ◌*◌, ◌^◌, ◌≤◌, drop}
use Rattle.spu_elf.specs.Lengths.{segments_grown}
use Rattle.spu_elf.proofs.writing.lengths.segments_extent.Given as goal

abbrev pub invariant-loop-k : goal.invariant-loop-k
invariant-loop-k l = record {
  value : segments_grown l.extent l.k (drop l.k l.segments) ≡ segments_grown l.e 0 l.segments;
  file : l.extent.file ≤ 1000000 + l.k * 2 ^ 64;
  heads : l.extent.heads ≤ 1000 + l.k * 40;
  names : l.extent.names ≤ 1000 + l.k * 100;
}
