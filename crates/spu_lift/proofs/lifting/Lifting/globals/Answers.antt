use Rattle.spu_lift.specs.Lifted.{global_of}
use Rattle.spu_lift.proofs.BuiltLemmas.{symbols_more}
use Rattle.spu_lift.proofs.lifting.Lifting.globals.Goals as goal

pub loop-object-preserved : goal.loop-object-preserved
loop-object-preserved c =
    let os = c.args.self.now.tables.objects.now in
    let pushed = rw c.as_slice.ensures at c.in_ok-push_globals.ensures in
    symbols_more (global_of os) os c.loop-object.object c.o-item.result c.loop-object.globals c.push_globals.new.globals c.loop-object-test.true c.o-item.is c.loop-object.invariant pushed
