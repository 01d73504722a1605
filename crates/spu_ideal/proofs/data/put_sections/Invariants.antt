use Rattle.std.proofs.Common.{◌≡◌, drop}
use Rattle.spu_ideal.specs.Machine.{data_byte}
use Rattle.spu_ideal.specs.View.{store_of}
use Rattle.spu_ideal.proofs.data.put_sections.Given as goal

abbrev pub invariant-loop-k : goal.invariant-loop-k
invariant-loop-k l = store_of l.store ≡ data_byte (drop l.k l.parts)
