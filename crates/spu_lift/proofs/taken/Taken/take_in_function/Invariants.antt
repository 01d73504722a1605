use Rattle.std.proofs.Common.{◌≡◌, ◌⊎◌, ◌↔◌, true}
use Rattle.spu_lift.specs.declared.functions.Place.{Place}
use Rattle.spu_lift.specs.TakenPlaces.{NamesPlace, spot_in, takes}
use Rattle.spu_lift.proofs.TakenLemmas.{IsBelow}
use Rattle.spu_lift.proofs.taken.Taken.take_in_function.Given as goal

abbrev pub invariant-loop-word : goal.invariant-loop-word
invariant-loop-word l =
    (p : Place) → (takes l.self p ≡ true) ↔ ((takes l.initial.self p ≡ true) ⊎ IsBelow (λ w. NamesPlace l.lifting.tables.objects.now l.lifting.functions.sorted.items l.function (spot_in l.f w)) l.word p)
