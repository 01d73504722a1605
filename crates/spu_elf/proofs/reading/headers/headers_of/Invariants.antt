use Rattle.std.proofs.Common.{◌≡◌, map}
use Rattle.std.specs.List.{All, range_with_len}
use Rattle.spu_elf.specs.Bounds.{IsNear}
use Rattle.spu_elf.specs.Reading.{header}
use Rattle.spu_elf.proofs.reading.headers.headers_of.Given as goal

abbrev pub invariant-loop-k : goal.invariant-loop-k
invariant-loop-k l = record { value : l.all ≡ map (header l.bytes) (range_with_len 0 l.k); near : All IsNear l.all }
