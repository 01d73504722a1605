use Rattle.std.proofs.Common.{◌≡◌, ◌+◌, ◌*◌, ◌^◌, ◌≤◌, drop}
use Rattle.spu_elf.specs.Executables.{loads_check}
use Rattle.spu_elf.proofs.reading.program_headers.check_loads.Given as goal

abbrev pub invariant-loop-k : goal.invariant-loop-k
invariant-loop-k l = record {
  checks : loads_check l.bytes l.k l.at (drop l.k l.loads) ≡ loads_check l.bytes 0 l.from l.loads;
  near : l.at ≤ 1000000 + l.k * 2 ^ 33;
}
