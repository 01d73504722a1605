use Rattle.std.proofs.Common.{arith, ◌∙◌, ap, ◌++◌, ◌∷◌, []}
use Rattle.std.specs.Prelude.{fold}
use Rattle.spu_lift.specs.Placed.{count_after, end_after, placings_from}
use Rattle.spu_lift.proofs.PlacedLemmas.{all_placed, object_more, room_left}
use Rattle.spu_lift.proofs.sections.Sections.of.Goals as goal

pub place_all-requires-clause-room : goal.place_all-requires-clause-room
place_all-requires-clause-room c =
    let room = room_left c.args.objects.now c.loop-object.object-index c.object-item.result c.loop-object.sections c.requires.few c.loop-object-test.true c.object-item.is c.requires.formed c.loop-object.invariant in
    rw c.as_slice.ensures room

pub loop-object-preserved : goal.loop-object-preserved
loop-object-preserved c =
    object_more c.args.objects.now c.loop-object.object-index c.object-item.result c.loop-object.sections (record { placings = c.push.new.self; code = c.place_all.new.self.code; end = c.place_all.new.self.end }) c.in_ok-placings.placings
    c.loop-object-test.true c.object-item.is c.loop-object.invariant
    (c.in_ok-placings.ensures.placings ∙ ap (placings_from c.loop-object.sections.end c.loop-object.sections.code) c.as_slice.ensures)
    (c.in_ok-push.ensures.ok ∙ ap (λ x. x ++ c.in_ok-placings.placings ∷ []) c.in_ok-placings.ensures.same)
    (c.in_ok-placings.ensures.end ∙ ap (fold end_after c.loop-object.sections.end) c.as_slice.ensures)
    (c.in_ok-placings.ensures.code ∙ ap (fold count_after c.loop-object.sections.code) c.as_slice.ensures)

pub returns : goal.returns
returns c = all_placed c.args.objects.now c.loop-object.object-index c.loop-object.sections (omega arith) c.requires.few c.requires.formed c.loop-object.invariant
