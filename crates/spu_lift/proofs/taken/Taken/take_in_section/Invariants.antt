use Rattle.std.proofs.Common.{◌≡◌, ◌*◌, ◌⊎◌, ◌↔◌, true}
use Rattle.spu_word.specs.declared.limits.TheConstants.{WORD_SIZE}
use Rattle.spu_lift.specs.declared.functions.Place.{Place}
use Rattle.spu_lift.specs.TakenPlaces.{LabelsPlace, takes}
use Rattle.spu_lift.proofs.TakenLemmas.{IsBelow}
use Rattle.spu_lift.proofs.taken.Taken.take_in_section.Given as goal

abbrev pub invariant-loop-word : goal.invariant-loop-word
invariant-loop-word l =
    (p : Place) → (takes l.self p ≡ true) ↔ ((takes l.initial.self p ≡ true) ⊎ IsBelow (λ w. LabelsPlace l.lifting.tables.objects.now l.lifting.functions.sorted.items (record { object = l.object; section = l.section; offset = WORD_SIZE * w })) l.word p)
