use Rattle.std.proofs.Common.{◌≡◌, ◌+◌, ◌*◌, ◌≤◌, drop}
use Rattle.spu_elf.specs.Executables.{names_end}
use Rattle.spu_elf.proofs.reading.section_headers.names_end.Given as goal

abbrev pub invariant-loop-k : goal.invariant-loop-k
invariant-loop-k l = record {
  value : names_end l.len l.k (drop l.k l.loads) ≡ names_end 1 0 l.loads;
  small : l.len ≤ 1 + l.k * 8;
}
