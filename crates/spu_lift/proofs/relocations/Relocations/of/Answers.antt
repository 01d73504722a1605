use Rattle.std.proofs.Common.{◌≡◌, ◌<◌, length, get_or, ap, ◌∙◌, arith}
use Rattle.spu_elf.specs.declared.objects.Object.{Object}
use Rattle.spu_lift.proofs.Noting.{notes_more}
use Rattle.spu_lift.proofs.relocations.Relocations.of.Goals as goal

pub loop-object-preserved : goal.loop-object-preserved
loop-object-preserved c =
    let less : c.loop-object.object < length c.args.objects.now = omega arith in
    notes_more c.args.objects.now c.loop-object.object c.index-objects-object.result c.as_slice.result.now less (c.as_slice.ensures ∙ ap (λ (o : Object). o.relocs) c.index-objects-object.is)
    c.loop-object.relocations c.note_all.new.self c.loop-object.invariant c.in_ok-note_all.ensures
