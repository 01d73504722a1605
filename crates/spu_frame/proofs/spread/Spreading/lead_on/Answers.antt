use Rattle.std.proofs.Common.{List, Option, sym, ap, ◌∙◌, subst, ℤ}
use Rattle.spu_word.specs.Chains.{lists_of}
use Rattle.spu_frame.specs.declared.met.Met.{Met}
use Rattle.spu_frame.specs.Surveys.{Hands, IsWay, met_at, met_behind, amount_in}
use Rattle.spu_frame.proofs.Ways.{hands_on}
use Rattle.spu_frame.proofs.spread.Spreading.lead_on.Goals as goal

pub returns : goal.returns
returns c =
    let p = c.args.p.now in
    let f = c.args.f in
    let i = c.args.i in
    let old = c.args.self.now in
    let given =
    c.behind-met.ensures ∙ ap (λ (m : Met). met_behind m c.amount.result) (c.met_at.ensures ∙ ap (λ (ms : List Met). met_at ms i) c.deref.ensures.value)
    ∙ ap (λ (o : Option (Option ℤ)). met_behind (met_at old.met.items i) (amount_in o)) (sym c.amount.ensures) in
    subst (λ (m : Met). Hands (IsWay p f i) m old.met.items (lists_of old.waiting 0) c.hand_around.new.self.met.items (lists_of c.hand_around.new.self.waiting 0)) given
    (hands_on p f i c.behind-met.result old.met.items c.hand_on.new.self.met.items c.hand_over.new.self.met.items c.hand_around.new.self.met.items
    (lists_of old.waiting 0) (lists_of c.hand_on.new.self.waiting 0) (lists_of c.hand_over.new.self.waiting 0) (lists_of c.hand_around.new.self.waiting 0) c.requires.i c.hand_on.ensures c.hand_over.ensures c.hand_around.ensures)
