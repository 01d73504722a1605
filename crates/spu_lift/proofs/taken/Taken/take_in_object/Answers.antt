use Rattle.std.proofs.Common.{◌≡◌, ℕ, ◌<◌, ◌⊎◌, ◌↔◌, List, length, true, false, Some, slice_get, refl, sym, ap, subst, ◌∙◌, arith, rules}
use Rattle.std.proofs.lemmas.Grind.{common_steps}
use Rattle.std.proofs.lemmas.Option.{slice_get_read}
use Rattle.spu_elf.specs.declared.objects.Section.{Section}
use Rattle.spu_lift.specs.declared.functions.Place.{Place}
use Rattle.spu_lift.specs.declared.taken.Taken.{Taken}
use Rattle.spu_lift.specs.Tables.{is_code}
use Rattle.spu_lift.specs.TakenPlaces.{IsLabeledBy, IsLabeledIn, takes}
use Rattle.spu_lift.proofs.TakenLemmas.{none_taken, step_more}
use Rattle.spu_lift.proofs.TakenSteps.{adds_by, code_unlabeled, labeled_section, section_labeled}
use Rattle.spu_lift.proofs.taken.Taken.take_in_object.Goals as goal
use Rattle.spu_lift.proofs.taken.Taken.take_in_object.Goals.{then-ne+in_ok-take_in_section, else-ne}

pub loop-section-preserved : goal.loop-section-preserved
loop-section-preserved c =
    let os = c.args.lifting.now.tables.objects.now in
    let fs = c.args.lifting.now.functions.sorted.items in
    let n = c.args.object in
    let ts = c.args.o.now.sections in
    let k = c.loop-section.section in
    let there : slice_get ts k ≡ Some c.s-item.result =
    ap (λ (xs : List Section). slice_get xs k) (sym c.as_slice-s-items.ensures) ∙ slice_get_read c.as_slice-s-items.result.now (length c.as_slice-s-items.result.now) k c.s-item.result refl c.loop-section-test.true c.s-item.is in
    let such : ℕ → Place → Type 0 = IsLabeledBy os fs n ts in
    let Step : Taken → Type 0 = λ t. (p : Place) → (takes t p ≡ true) ↔ ((takes c.loop-section.self p ≡ true) ⊎ such k p) in
    let step : Step c.if-ne.self = elim c.if-ne.branch [
      | then-ne+in_ok-take_in_section w ↦
          let holds : is_code c.s-item.result.kind ≡ false = first_of (search rules, grind (arith, common_steps)) in
          subst Step (sym w.self-is) (adds_by (IsLabeledIn os fs n k c.s-item.result) (such k) (takes c.loop-section.self) (takes w.take_in_section.new.self) (section_labeled os fs n ts k c.s-item.result there holds)
          (labeled_section os fs n ts k c.s-item.result there) w.in_ok-take_in_section.ensures)
      | else-ne w ↦
          let code : is_code c.s-item.result.kind ≡ true = first_of (search rules, grind (arith, common_steps)) in
          subst Step (sym w.self-is) (none_taken (such k) (takes c.loop-section.self) (code_unlabeled os fs n ts k c.s-item.result there code))
    ] in
    step_more such (takes c.args.self.now) (takes c.loop-section.self) (takes c.if-ne.self) k c.loop-section.invariant step
