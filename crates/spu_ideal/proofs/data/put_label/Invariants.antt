use Rattle.std.proofs.Common.{◌≡◌}
use Rattle.spu_lift.specs.declared.symbolic.SymByte.TheVariants.{Part}
use Rattle.spu_ideal.specs.Filling.{filled}
use Rattle.spu_ideal.specs.View.{store_of}
use Rattle.spu_ideal.proofs.data.put_label.Given as goal

abbrev pub invariant-loop-k : goal.invariant-loop-k
invariant-loop-k l = store_of l.store ≡ filled l.at l.k (Part l.label) (store_of l.fn.store)
