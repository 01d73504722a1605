use Rattle.std.proofs.Common.{◌≡◌, ◌+◌, ◌*◌, ◌-◌, ◌++◌, map}
use Rattle.std.specs.List.{range_with_len, filter_map}
use Rattle.spu_elf.specs.Reading.{reloc_at}
use Rattle.spu_elf.proofs.reading.object.add_table.Given as goal

abbrev pub invariant-loop-j : goal.invariant-loop-j
invariant-loop-j l = l.out ++ filter_map (reloc_at l.bytes l.target l.symbols) (map (λ k. l.at + 12 * k) (range_with_len l.j (l.n - l.j))) ≡ l.initial.out ++ filter_map (reloc_at l.bytes l.target l.symbols) (map (λ k. l.at + 12 * k) (range_with_len 0 l.n))
