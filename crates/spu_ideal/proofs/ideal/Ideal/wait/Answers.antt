use Rattle.std.proofs.Common.{◌+◌, ap, sym, ◌∙◌, arith}
use Rattle.spu_ideal.specs.State.{Sym}
use Rattle.spu_ideal.specs.View.{state_of}
use Rattle.spu_ideal.proofs.Going.{free_waits, free_few, waits_is}
use Rattle.spu_ideal.proofs.ideal.Ideal.wait.Goals as goal

pub enqueue-requires-clause-waiting : goal.enqueue-requires-clause-waiting
enqueue-requires-clause-waiting c = free_waits (state_of c.args.self.now) c.transfer-t.result (sym c.is_free.ensures ∙ c.if-is_free.true)

pub enqueue-requires-clause-few : goal.enqueue-requires-clause-few
enqueue-requires-clause-few c = (let h = free_few (state_of c.args.self.now) c.transfer-t.result (sym c.is_free.ensures ∙ c.if-is_free.true) in omega (arith, h))

pub returns-in-Some-clause-exact : goal.returns-in-Some-clause-exact
returns-in-Some-clause-exact c =
    c.go_on.ensures.exact
    ∙ ap (λ (s : Sym). record s { f = c.args.self.now.f; i = c.args.self.now.i + 1; steps = s.steps + 1 }) c.enqueue.ensures.exact
    ∙ waits_is c.args.form c.args.p.now (state_of c.args.self.now) c.transfer-t.result c.in-Some.field-0 c.transfer-t.ensures (sym c.is_free.ensures ∙ c.if-is_free.true) (sym c.instruction.ensures ∙ c.in-Some.is)
