use Rattle.std.proofs.Common.{ℕ, ◌+◌, ap, ◌∙◌, arith}
use Rattle.std.specs.Prelude.{◌==◌, if◌then◌else◌, slice_index}
use Rattle.spu_lift.specs.declared.symbolic.SymByte.{SymByte}
use Rattle.spu_lift.specs.declared.symbolic.SymByte.TheVariants.{Num}
use Rattle.spu_ideal.specs.View.{store_of}
use Rattle.spu_ideal.proofs.Placing.{placed_none, placed_more, placed_all}
use Rattle.spu_ideal.proofs.landing.place.Goals as goal

pub loop-k-init : goal.loop-k-init
loop-k-init c = placed_none c.args.at c.args.bytes.now (store_of c.args.store.now)

pub loop-k-preserved : goal.loop-k-preserved
loop-k-preserved c =
    c.put_byte.ensures.value
    ∙ ap (λ (s : ℕ → SymByte). λ (j : ℕ). if j == c.args.at + c.loop-k.k then Num (slice_index c.args.bytes.now c.loop-k.k) else s j) c.loop-k.invariant
    ∙ placed_more c.args.at c.args.bytes.now (store_of c.args.store.now) c.loop-k.k c.loop-k-test.true

pub returns-clause-value : goal.returns-clause-value
returns-clause-value c = c.loop-k.invariant ∙ placed_all c.args.at c.loop-k.k c.args.bytes.now (store_of c.args.store.now) (omega arith)
