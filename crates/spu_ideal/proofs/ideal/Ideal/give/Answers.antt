use Rattle.std.proofs.Common.{ℕ, List, ap, ◌∙◌}
use Rattle.spu_word.specs.Bytes.{quad_of}
use Rattle.spu_lift.specs.declared.symbolic.SymByte.{SymByte}
use Rattle.spu_ideal.specs.Bytes.{numbers}
use Rattle.spu_ideal.specs.State.{sets}
use Rattle.spu_ideal.specs.View.{state_of}
use Rattle.spu_ideal.proofs.ideal.Ideal.give.Goals as goal

pub returns-clause-exact : goal.returns-clause-exact
returns-clause-exact c =
    c.set.ensures.exact
    ∙ ap (λ (q : List SymByte). sets c.args.p.now c.args.r q (state_of c.args.self.now)) (c.preferred.ensures ∙ ap (λ (n : ℕ). numbers (quad_of n 0 0 0)) c.count-n.ensures)
