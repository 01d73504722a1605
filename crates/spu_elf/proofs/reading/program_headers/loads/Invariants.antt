use Rattle.std.proofs.Common.{◌≡◌, length, map}
use Rattle.std.specs.List.{range_with_len}
use Rattle.spu_elf.specs.Executables.{load_at}
use Rattle.spu_elf.proofs.reading.program_headers.loads.Given as goal

abbrev pub invariant-loop-k : goal.invariant-loop-k
invariant-loop-k l = record { value : l.all ≡ map (load_at l.bytes) (range_with_len 0 l.k); long : length l.all ≡ l.k }
