use Rattle.std.proofs.Common.{◌≡◌, take}
use Rattle.spu_lift.specs.Placed.{ArePlacedFrom}
use Rattle.spu_lift.proofs.sections.Sections.place_all.Given as goal

abbrev pub invariant-loop-section : goal.invariant-loop-section
invariant-loop-section l = record {
  placed : ArePlacedFrom l.initial.self.end l.initial.self.code (take l.section-index l.sections) l.placings l.self.end l.self.code;
  same : l.self.placings ≡ l.initial.self.placings;
}
