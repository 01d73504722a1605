use Rattle.std.proofs.Common.{◌≡◌, drop}
use Rattle.spu_ideal.specs.Filling.{filled, section_bytes}
use Rattle.spu_ideal.specs.View.{store_of}
use Rattle.spu_ideal.proofs.data.put_section.Given as goal

abbrev pub invariant-loop-k : goal.invariant-loop-k
invariant-loop-k l = store_of l.store ≡ filled l.part.address l.part.size (section_bytes l.part (drop l.k l.labels)) (store_of l.fn.store)
