use Rattle.std.proofs.Common.{◌≡◌, ◌-◌, ◌++◌}
use Rattle.std.specs.List.{range_with_len, flat_map}
use Rattle.spu_elf.specs.Reading.{relocs_for, relocs}
use Rattle.spu_elf.proofs.reading.object.relocs.Given as goal

abbrev pub invariant-loop-k : goal.invariant-loop-k
invariant-loop-k l = l.out ++ flat_map (relocs_for l.bytes l.numbers l.symbols l.tables) (range_with_len l.k (l.count - l.k)) ≡ relocs l.bytes l.numbers l.symbols l.tables l.count
