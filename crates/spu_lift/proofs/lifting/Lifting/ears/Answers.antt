use Rattle.spu_lift.specs.Lifted.{ear_of}
use Rattle.spu_lift.proofs.BuiltLemmas.{symbols_more}
use Rattle.spu_lift.proofs.lifting.Lifting.ears.Goals as goal

pub loop-object-preserved : goal.loop-object-preserved
loop-object-preserved c =
    let os = c.args.self.now.tables.objects.now in
    symbols_more (ear_of os) os c.loop-object.object c.o-item.result c.loop-object.ears c.push_ears.new.ears c.loop-object-test.true c.o-item.is c.loop-object.invariant c.in_ok-push_ears.ensures
