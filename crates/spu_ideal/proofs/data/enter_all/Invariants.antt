use Rattle.std.proofs.Common.{◌≡◌, drop}
use Rattle.std.specs.Prelude.{map}
use Rattle.spu_ideal.specs.Machine.{entry_of, with_entries}
use Rattle.spu_ideal.specs.View.{store_of}
use Rattle.spu_ideal.proofs.data.enter_all.Given as goal

abbrev pub invariant-loop-k : goal.invariant-loop-k
invariant-loop-k l = with_entries (map entry_of (drop l.k l.ears)) l.areas (store_of l.store) ≡ with_entries (map entry_of l.ears) l.areas (store_of l.fn.store)
