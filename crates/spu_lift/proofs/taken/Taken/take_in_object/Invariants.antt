use Rattle.std.proofs.Common.{◌≡◌, ◌⊎◌, ◌↔◌, true}
use Rattle.spu_lift.specs.declared.functions.Place.{Place}
use Rattle.spu_lift.specs.TakenPlaces.{IsLabeledBy, takes}
use Rattle.spu_lift.proofs.TakenLemmas.{IsBelow}
use Rattle.spu_lift.proofs.taken.Taken.take_in_object.Given as goal

abbrev pub invariant-loop-section : goal.invariant-loop-section
invariant-loop-section l =
    (p : Place) → (takes l.self p ≡ true) ↔ ((takes l.initial.self p ≡ true) ⊎ IsBelow (IsLabeledBy l.lifting.tables.objects.now l.lifting.functions.sorted.items l.object l.o.sections) l.section p)
