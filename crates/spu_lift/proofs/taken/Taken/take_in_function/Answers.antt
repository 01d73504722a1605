use Rattle.std.proofs.Common.{◌≡◌, ℕ, ◌⊎◌, ◌↔◌, true, sym, subst}
use Rattle.spu_lift.specs.declared.relocations.Spot.{Spot}
use Rattle.spu_lift.specs.declared.functions.Place.{Place}
use Rattle.spu_lift.specs.declared.taken.Taken.{Taken}
use Rattle.spu_lift.specs.TakenPlaces.{NamesPlace, spot_in, takes}
use Rattle.spu_lift.proofs.TakenLemmas.{none_taken, one_named, one_taken, step_more}
use Rattle.spu_lift.proofs.taken.Taken.take_in_function.Goals as goal
use Rattle.spu_lift.proofs.taken.Taken.take_in_function.Goals.{in-Some+in_ok-take, in_default}

pub loop-word-preserved : goal.loop-word-preserved
loop-word-preserved c =
    let os = c.args.lifting.now.tables.objects.now in
    let fs = c.args.lifting.now.functions.sorted.items in
    let n = c.loop-word.word in
    let such : ℕ → Place → Type 0 = λ w. NamesPlace os fs c.args.function (spot_in c.args.f.now w) in
    let Step : Taken → Type 0 = λ t. (p : Place) → (takes t p ≡ true) ↔ ((takes c.loop-word.self p ≡ true) ⊎ such n p) in
    let step : Step c.match-address_in.self = elim c.match-address_in.branch [
      | in-Some+in_ok-take w ↦
          let named : such n w.in-Some.place = subst (λ (q : Spot). NamesPlace os fs c.args.function q w.in-Some.place) c.spot.ensures w.in-Some.ensures.some in
          subst Step (sym w.self-is) (one_taken (such n) (takes c.loop-word.self) (takes w.take.new.self) w.in-Some.place named (λ p is. one_named os fs c.args.function (spot_in c.args.f.now n) w.in-Some.place p c.requires.places named is) w.in_ok-take.ensures)
      | in_default w ↦
          subst Step (sym w.self-is) (none_taken (such n) (takes c.loop-word.self) (λ p named. w.in_default.ensures.none p (subst (λ (q : Spot). NamesPlace os fs c.args.function q p) (sym c.spot.ensures) named)))
    ] in
    step_more such (takes c.args.self.now) (takes c.loop-word.self) (takes c.match-address_in.self) n c.loop-word.invariant step
