use Rattle.std.proofs.Common.{refl, ap, sym, ◌∙◌, List, ℕ}
use Rattle.spu_word.specs.declared.load.Area.{Area}
use Rattle.spu_exec.specs.Entries.{quad_for}
use Rattle.spu_ls.specs.View.{state_of}
use Rattle.spu_ls.proofs.Starting.{enter_some, enter_none, enter_other}
use Rattle.spu_ls.proofs.stepping.Machine.enter.Goals as goal

pub returns-in-Some : goal.returns-in-Some
returns-in-Some c =
    c.place.ensures
    ∙ enter_some c.args.s.now (state_of c.args.self.now) c.in-Some.quad.0 (sym c.is_entry.ensures ∙ c.if-is_entry.true)
    (c.in-Some.ensures.some
    ∙ ap (λ (areas : List Area). quad_for areas c.area_name.result.now) c.deref.ensures.value
    ∙ ap (λ (name : List ℕ). quad_for c.args.self.now.areas.items name) c.area_name.ensures)

pub returns-in_default : goal.returns-in_default
returns-in_default c =
    enter_none c.args.s.now (state_of c.args.self.now) (sym c.is_entry.ensures ∙ c.if-is_entry.true)
    (sym (ap (λ (areas : List Area). quad_for areas c.area_name.result.now) c.deref.ensures.value
    ∙ ap (λ (name : List ℕ). quad_for c.args.self.now.areas.items name) c.area_name.ensures) ∙ c.in_default.ensures.none refl)

pub returns-else-is_entry : goal.returns-else-is_entry
returns-else-is_entry c = enter_other c.args.s.now (state_of c.args.self.now) (sym c.is_entry.ensures ∙ c.if-is_entry.false)
