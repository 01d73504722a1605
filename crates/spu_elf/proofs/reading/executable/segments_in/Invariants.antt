use Rattle.std.proofs.Common.{◌≡◌, ◌+◌, ◌*◌, ◌^◌, ◌≤◌, ◌++◌, drop}
use Rattle.spu_elf.specs.Executables.{segments_in}
use Rattle.spu_elf.proofs.reading.executable.segments_in.Given as goal

abbrev pub invariant-loop-k : goal.invariant-loop-k
invariant-loop-k l = record {
  value : l.all ++ segments_in l.bytes l.k l.at (drop l.k l.loads) ≡ segments_in l.bytes 0 l.from l.loads;
  near : l.at ≤ 1000000 + l.k * 2 ^ 33;
}
