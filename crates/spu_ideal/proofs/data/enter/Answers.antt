use Rattle.std.proofs.Common.{List, ℕ, refl, sym, ap, ◌∙◌}
use Rattle.spu_exec.specs.Entries.{quad_for}
use Rattle.spu_ideal.specs.View.{store_of}
use Rattle.spu_ideal.proofs.Filling.{enter_some, enter_none}
use Rattle.spu_ideal.proofs.data.enter.Goals as goal

pub returns-in-Some-clause-value : goal.returns-in-Some-clause-value
returns-in-Some-clause-value c =
    enter_some c.args.ear.now c.args.areas.now c.in-Some.quad.0 (store_of c.args.store.now) (store_of c.place.new.store)
    (c.in-Some.ensures.some ∙ ap (λ (name : List ℕ). quad_for c.args.areas.now name) c.as_slice.ensures) c.place.ensures.value

pub returns-in_default-clause-value : goal.returns-in_default-clause-value
returns-in_default-clause-value c =
    enter_none c.args.ear.now c.args.areas.now (store_of c.args.store.now)
    (sym (ap (λ (name : List ℕ). quad_for c.args.areas.now name) c.as_slice.ensures) ∙ c.in_default.ensures.none refl)
