use Rattle.std.proofs.Common.{ℕ, ◌+◌, ◌<◌, List, ◌∷◌, length, get_or, drop, ap, sym, ◌∙◌, arith}
use Rattle.spu_lift.specs.declared.symbolic.SymByte.{SymByte}
use Rattle.spu_ideal.specs.State.{put}
use Rattle.spu_ideal.specs.View.{regs_of, state_of}
use Rattle.spu_ideal.proofs.Going.{register_set, taken_next, takes_some, takes_none}
use Rattle.spu_ideal.proofs.ideal.Ideal.take.Goals as goal

pub returns-in-Some-clause-exact : goal.returns-in-Some-clause-exact
returns-in-Some-clause-exact c =
    let mail : List ℕ = c.args.self.now.mail.items in
    let rest : List ℕ = drop (c.args.self.now.taken + 1) c.args.self.now.mail.items in
    let lt : c.args.self.now.taken < length c.args.self.now.mail.items = omega arith in
    c.go_on.ensures.exact
    ∙ ap (λ (regs : ℕ → List SymByte). record (state_of c.args.self.now) { regs = regs; mail = rest; f = c.args.self.now.f; i = c.args.self.now.i + 1; steps = c.args.self.now.steps + 1 })
    (register_set c.args.self.now.regs.items c.args.r c.preferred.result (omega arith) ∙ ap (λ (q : List SymByte). put c.args.r q (regs_of c.args.self.now.regs.items)) c.preferred.ensures)
    ∙ takes_some (drop c.args.self.now.taken mail) c.index-word.result.now rest c.args.r c.args.p.now (state_of c.args.self.now) c.in-Some.field-0
    (taken_next mail c.args.self.now.taken c.index-word.result.now lt ∙ ap (λ (w : ℕ). w ∷ rest) (sym c.index-word.ensures))
    (sym c.instruction.ensures ∙ c.in-Some.is)

pub returns-in-None-clause-exact : goal.returns-in-None-clause-exact
returns-in-None-clause-exact c =
    let mail : List ℕ = c.args.self.now.mail.items in
    let lt : c.args.self.now.taken < length c.args.self.now.mail.items = omega arith in
    c.leave.ensures.exact
    ∙ takes_none (drop c.args.self.now.taken mail) (get_or mail c.args.self.now.taken 0) (drop (c.args.self.now.taken + 1) mail) c.args.r c.args.p.now (state_of c.args.self.now)
    (taken_next mail c.args.self.now.taken 0 lt) (sym c.instruction.ensures ∙ c.in-None.is)
