use Rattle.std.proofs.Common.{◌≡◌, ◌+◌, ◌*◌, ◌^◌, ◌≤◌, drop}
use Rattle.spu_elf.specs.Executables.{loads_end}
use Rattle.spu_elf.proofs.reading.program_headers.loads_end.Given as goal

abbrev pub invariant-loop-l : goal.invariant-loop-l
invariant-loop-l l = record {
  value : loads_end l.at (drop l.l-index l.loads) ≡ loads_end l.from l.loads;
  near : l.at ≤ 1000000 + l.l-index * 2 ^ 33;
}
