use Rattle.std.proofs.Common.{arith, ◌<◌, length}
use Rattle.spu_lift.proofs.DefinedLemmas.{object_defined}
use Rattle.spu_lift.proofs.definitions.Definitions.of.Goals as goal

pub loop-object-preserved : goal.loop-object-preserved
loop-object-preserved c =
    let within : c.loop-object.object < length c.args.objects.now = omega arith in
    object_defined c.args.objects.now c.loop-object.object c.index-objects-object.result c.as_slice.result.now within c.index-objects-object.is c.as_slice.ensures
    c.loop-object.definitions c.define_all.new.self c.loop-object.invariant c.in_ok-define_all.ensures
