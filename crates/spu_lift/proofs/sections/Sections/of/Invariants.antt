use Rattle.std.proofs.Common.{take}
use Rattle.spu_lift.proofs.PlacedLemmas.{ArePlacedIn}
use Rattle.spu_lift.proofs.sections.Sections.of.Given as goal

abbrev pub invariant-loop-object : goal.invariant-loop-object
invariant-loop-object l = ArePlacedIn (take l.object-index l.objects) l.sections
