use Rattle.std.proofs.Common.{arith, sym}
use Rattle.std.specs.Prelude.{map}
use Rattle.spu_ideal.specs.Machine.{entry_of, with_entries}
use Rattle.spu_ideal.specs.View.{store_of}
use Rattle.spu_ideal.proofs.Filling.{enter_step, enter_last}
use Rattle.spu_ideal.proofs.data.enter_all.Goals as goal

pub enter-requires-clause-inside : goal.enter-requires-clause-inside
enter-requires-clause-inside c = c.requires.inside c.index-ears-k.result (c.loop-k.k, c.loop-k-test.true, sym c.index-ears-k.is)

pub loop-k-preserved : goal.loop-k-preserved
loop-k-preserved c =
    enter_step c.args.ears.now c.loop-k.k c.index-ears-k.result c.args.areas.now (with_entries (map entry_of c.args.ears.now) c.args.areas.now (store_of c.args.store.now)) (store_of c.loop-k.store) (store_of c.enter.new.store)
    c.loop-k-test.true c.index-ears-k.is c.loop-k.invariant c.enter.ensures.value

pub returns-clause-value : goal.returns-clause-value
returns-clause-value c =
    enter_last c.args.ears.now c.loop-k.k c.args.areas.now (with_entries (map entry_of c.args.ears.now) c.args.areas.now (store_of c.args.store.now)) (store_of c.loop-k.store) (omega (arith, c.loop-k-test.false)) c.loop-k.invariant
