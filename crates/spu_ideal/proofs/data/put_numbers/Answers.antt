use Rattle.std.proofs.Common.{◌≡◌, [], ap, ◌∙◌, arith}
use Rattle.spu_lift.specs.declared.symbolic.SymByte.TheVariants.{Num}
use Rattle.spu_ideal.specs.Filling.{filled, section_bytes}
use Rattle.spu_ideal.specs.View.{store_of}
use Rattle.spu_ideal.proofs.Filling.{filled_none, filled_step}
use Rattle.spu_ideal.proofs.data.put_numbers.Goals as goal

pub loop-j-init : goal.loop-j-init
loop-j-init c = filled_none c.args.part.now.address (section_bytes c.args.part.now []) (store_of c.args.store.now)

pub loop-j-preserved : goal.loop-j-preserved
loop-j-preserved c =
    filled_step c.args.part.now.address c.loop-j.j (section_bytes c.args.part.now []) (store_of c.args.store.now) (store_of c.loop-j.store) (store_of c.put_byte.new.store) (Num c.number_in.result)
    c.loop-j.invariant (ap Num c.number_in.ensures) c.put_byte.ensures.value

pub returns-clause-value : goal.returns-clause-value
returns-clause-value c =
    c.loop-j.invariant ∙ (let e : c.loop-j.j ≡ c.args.part.now.size = omega arith in ap (λ n. filled c.args.part.now.address n (section_bytes c.args.part.now []) (store_of c.args.store.now)) e)
