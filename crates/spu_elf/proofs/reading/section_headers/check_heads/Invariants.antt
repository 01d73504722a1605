use Rattle.std.proofs.Common.{◌≡◌, ◌+◌, ◌*◌, ◌^◌, ◌≤◌, drop}
use Rattle.spu_elf.specs.Executables.{heads_check}
use Rattle.spu_elf.proofs.reading.section_headers.check_heads.Given as goal

abbrev pub invariant-loop-k : goal.invariant-loop-k
invariant-loop-k l = record {
  checks : heads_check l.bytes l.headers l.k l.at l.place (drop l.k l.loads) ≡ heads_check l.bytes l.headers 0 l.from 1 l.loads;
  near : l.at ≤ 1000000 + l.k * 2 ^ 33;
  small : l.place ≤ 1 + l.k * 8;
}
