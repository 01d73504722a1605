use Rattle.std.proofs.Common.{◌≡◌, ◌+◌, ◌*◌, ◌-◌, map}
use Rattle.std.specs.List.{range_with_len}
use Rattle.spu_elf.specs.Checks.{each}
use Rattle.spu_elf.specs.Reading.{reloc_checks}
use Rattle.spu_elf.proofs.reading.symbols.check_table.Given as goal

abbrev pub invariant-loop-j : goal.invariant-loop-j
invariant-loop-j l = each (reloc_checks l.bytes l.size l.symbols) (map (λ k. l.at + 12 * k) (range_with_len l.j (l.n - l.j))) ≡ each (reloc_checks l.bytes l.size l.symbols) (map (λ k. l.at + 12 * k) (range_with_len 0 l.n))
