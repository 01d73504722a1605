use Rattle.spu_lift.proofs.PlacedLemmas.{placed_more, room_for_one}
use Rattle.spu_lift.proofs.sections.Sections.place_all.Goals as goal

pub place-requires-clause-room : goal.place-requires-clause-room
place-requires-clause-room c =
    room_for_one c.args.self.now.end c.args.self.now.code c.args.sections.now c.loop-section.section-index c.loop-section.placings c.loop-section.self.end c.loop-section.self.code
    c.requires.room c.requires.valid c.loop-section-test.true c.loop-section.invariant.placed

pub loop-section-preserved : goal.loop-section-preserved
loop-section-preserved c = record {
  placed = placed_more c.args.self.now.end c.args.self.now.code c.args.sections.now c.loop-section.section-index c.section-item.result c.loop-section.placings c.push.new.self c.place.result
      c.loop-section.self.end c.loop-section.self.code c.place.new.self.end c.place.new.self.code c.loop-section-test.true c.section-item.is c.loop-section.invariant.placed
      c.place.ensures.placing c.place.ensures.end c.place.ensures.code c.in_ok-push.ensures.ok;
  same = cc;
}
