use Rattle.std.proofs.Common.{◌≡◌, ◌⊎◌, ◌↔◌, true}
use Rattle.spu_lift.specs.declared.functions.Place.{Place}
use Rattle.spu_lift.specs.TakenPlaces.{IsLabeledInObject, IsNamedBy, takes}
use Rattle.spu_lift.proofs.TakenLemmas.{IsBelow}
use Rattle.spu_lift.proofs.taken.Taken.of.Given as goal

abbrev pub invariant-loop-index : goal.invariant-loop-index
invariant-loop-index l =
    (p : Place) → (takes l.taken p ≡ true) ↔ ((takes l.initial.taken p ≡ true) ⊎ IsBelow (IsNamedBy l.lifting.tables.objects.now l.lifting.functions.sorted.items) l.index p)

abbrev pub invariant-loop-object : goal.invariant-loop-object
invariant-loop-object l =
    (p : Place) → (takes l.taken p ≡ true) ↔ ((takes l.initial.taken p ≡ true) ⊎ IsBelow (IsLabeledInObject l.lifting.tables.objects.now l.lifting.functions.sorted.items) l.object p)
