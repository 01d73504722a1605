use Rattle.std.proofs.Common.{◌≡◌, refl, ap, ◌∙◌, arith}
use Rattle.spu_lift.specs.declared.symbolic.SymByte.TheVariants.{Part}
use Rattle.spu_ideal.specs.Filling.{filled}
use Rattle.spu_ideal.specs.View.{store_of}
use Rattle.spu_ideal.proofs.Filling.{filled_none, filled_step}
use Rattle.spu_ideal.proofs.data.put_label.Goals as goal

pub loop-k-init : goal.loop-k-init
loop-k-init c = filled_none c.args.at (Part c.args.label) (store_of c.args.store.now)

pub loop-k-preserved : goal.loop-k-preserved
loop-k-preserved c =
    filled_step c.args.at c.loop-k.k (Part c.args.label) (store_of c.args.store.now) (store_of c.loop-k.store) (store_of c.put.new.store) (Part c.args.label c.loop-k.k)
    c.loop-k.invariant refl c.put.ensures.value

pub returns-clause-value : goal.returns-clause-value
returns-clause-value c = c.loop-k.invariant ∙ (let e : c.loop-k.k ≡ 4 = omega arith in ap (λ n. filled c.args.at n (Part c.args.label) (store_of c.args.store.now)) e)
