use Rattle.std.proofs.Common.{length, refl}
use Rattle.std.proofs.lemmas.Option.{slice_get_read}
use Rattle.spu_lift.proofs.BuiltParts.{no_parts, objects_more}
use Rattle.spu_lift.proofs.lifting.Lifting.parts.Goals as goal

pub loop-object-init : goal.loop-object-init
loop-object-init c = rw c.new-parts.ensures (no_parts c.args.self.now.tables.objects.now c.args.self.now.functions.sorted.items)

pub loop-object-preserved : goal.loop-object-preserved
loop-object-preserved c =
    let os = c.args.self.now.tables.objects.now in
    let there = slice_get_read os (length os) c.loop-object.object c.o-item.result refl c.loop-object-test.true c.o-item.is in
    objects_more os c.args.self.now.functions.sorted.items c.loop-object.object c.o-item.result c.push_parts.new.parts there c.in_ok-push_parts.ensures
