use Rattle.std.proofs.Common.{◌≡◌, ℕ, ◌*◌, ◌⊎◌, ◌↔◌, true, sym, subst}
use Rattle.spu_word.specs.declared.limits.TheConstants.{WORD_SIZE}
use Rattle.spu_lift.specs.declared.functions.Place.{Place}
use Rattle.spu_lift.specs.declared.taken.Taken.{Taken}
use Rattle.spu_lift.specs.TakenPlaces.{LabelsPlace, takes}
use Rattle.spu_lift.proofs.TakenLemmas.{none_taken, one_labeled, one_taken, step_more}
use Rattle.spu_lift.proofs.taken.Taken.take_in_section.Goals as goal
use Rattle.spu_lift.proofs.taken.Taken.take_in_section.Goals.{in-Some+in_ok-take, in_default}

pub loop-word-preserved : goal.loop-word-preserved
loop-word-preserved c =
    let os = c.args.lifting.now.tables.objects.now in
    let fs = c.args.lifting.now.functions.sorted.items in
    let n = c.loop-word.word in
    let such : ℕ → Place → Type 0 = λ w. LabelsPlace os fs (record { object = c.args.object; section = c.args.section; offset = WORD_SIZE * w }) in
    let Step : Taken → Type 0 = λ t. (p : Place) → (takes t p ≡ true) ↔ ((takes c.loop-word.self p ≡ true) ⊎ such n p) in
    let step : Step c.match-label_at.self = elim c.match-label_at.branch [
      | in-Some+in_ok-take w ↦
          subst Step (sym w.self-is) (one_taken (such n) (takes c.loop-word.self) (takes w.take.new.self) w.in-Some.place w.in-Some.ensures.some
          (λ p is. one_labeled os fs (record { object = c.args.object; section = c.args.section; offset = WORD_SIZE * n }) w.in-Some.place p c.requires.places w.in-Some.ensures.some is) w.in_ok-take.ensures)
      | in_default w ↦ subst Step (sym w.self-is) (none_taken (such n) (takes c.loop-word.self) w.in_default.ensures.none)
    ] in
    step_more such (takes c.args.self.now) (takes c.loop-word.self) (takes c.match-label_at.self) n c.loop-word.invariant step
