use Rattle.std.proofs.Common.{◌≡◌, ◌+◌, ◌*◌, ◌^◌, ◌≤◌, drop}
use Rattle.spu_elf.specs.Executables.{gaps_check}
use Rattle.spu_elf.proofs.reading.program_headers.check_gaps.Given as goal

abbrev pub invariant-loop-l : goal.invariant-loop-l
invariant-loop-l l = record {
  checks : gaps_check l.bytes l.at (drop l.l-index l.loads) ≡ gaps_check l.bytes l.from l.loads;
  near : l.at ≤ 1000000 + l.l-index * 2 ^ 33;
}
