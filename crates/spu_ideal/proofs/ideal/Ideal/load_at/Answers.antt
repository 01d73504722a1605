use Rattle.std.proofs.Common.{List, Bool, ap, sym, ◌∙◌}
use Rattle.std.specs.Prelude.{if◌then◌else◌}
use Rattle.spu_lift.specs.declared.symbolic.SymByte.{SymByte}
use Rattle.spu_ideal.specs.declared.ending.Reason.TheVariants as reason
use Rattle.spu_ideal.specs.declared.quads.SymQuad.{SymQuad}
use Rattle.spu_ideal.specs.Accesses.{loaded}
use Rattle.spu_ideal.specs.State.{sets, outside}
use Rattle.spu_ideal.specs.View.{state_of, store_of}
use Rattle.spu_ideal.proofs.ideal.Ideal.load_at.Goals as goal

pub returns-then-is_allowed-clause-exact : goal.returns-then-is_allowed-clause-exact
returns-then-is_allowed-clause-exact c =
    c.set.ensures.exact
    ∙ ap (λ (q : List SymByte). sets c.args.p.now c.args.r q (state_of c.args.self.now)) (c.quad_at-quad.ensures ∙ ap (λ (l : List SymQuad). loaded c.args.at (store_of l)) c.deref.ensures.value)
    ∙ sym (ap (λ (b : Bool). if b then sets c.args.p.now c.args.r (loaded c.args.at (store_of c.args.self.now.store.items)) (state_of c.args.self.now) else outside reason.Store (state_of c.args.self.now)) (sym c.is_allowed.ensures ∙ c.if-is_allowed.true))
