use Rattle.std.proofs.Common.{◌≡◌, ◌+◌, ◌*◌, length, map}
use Rattle.std.specs.List.{All, range_with_len}
use Rattle.spu_elf.specs.Bounds.{IsEntryNear}
use Rattle.spu_elf.specs.Reading.{entry_at}
use Rattle.spu_elf.proofs.reading.symbols.entries.Given as goal

abbrev pub invariant-loop-j : goal.invariant-loop-j
invariant-loop-j l = record { value : l.all ≡ map (λ k. entry_at l.bytes (l.at + 16 * k)) (range_with_len 1 l.j); near : All IsEntryNear l.all; long : length l.all ≡ l.j }
