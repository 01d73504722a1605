use Rattle.std.proofs.Common.{◌≡◌, []}
use Rattle.spu_ideal.specs.Filling.{filled, section_bytes}
use Rattle.spu_ideal.specs.View.{store_of}
use Rattle.spu_ideal.proofs.data.put_numbers.Given as goal

abbrev pub invariant-loop-j : goal.invariant-loop-j
invariant-loop-j l = store_of l.store ≡ filled l.part.address l.j (section_bytes l.part []) (store_of l.fn.store)
