use Rattle.std.proofs.Common.{ℕ, List, ap, sym, ◌∙◌}
use Rattle.spu_lift.specs.declared.symbolic.SymByte.{SymByte}
use Rattle.spu_ideal.specs.Channels.{reads}
use Rattle.spu_ideal.specs.State.{sets}
use Rattle.spu_ideal.specs.View.{state_of}
use Rattle.spu_ideal.proofs.ideal.Ideal.read.Goals as goal

pub returns-in-12-clause-exact : goal.returns-in-12-clause-exact
returns-in-12-clause-exact c =
    c.set.ensures.exact
    ∙ ap (λ (q : List SymByte). sets c.args.p.now c.args.r q (state_of c.args.self.now)) c.preferred.ensures
    ∙ sym (ap (λ (n : ℕ). reads n c.args.r c.args.p.now (state_of c.args.self.now)) c.in-12.is)
