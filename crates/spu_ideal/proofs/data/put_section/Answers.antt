use Rattle.std.proofs.Common.{length, arith}
use Rattle.spu_lift.specs.declared.program.Label.TheVariants.{Fun}
use Rattle.spu_lift.specs.declared.program.WordLabel.{WordLabel}
use Rattle.spu_ideal.specs.View.{store_of}
use Rattle.spu_ideal.proofs.Filling.{labels_none, labels_all, label_inside, label_step}
use Rattle.spu_ideal.proofs.data.put_section.Goals as goal

-- the label that the code reads where there is none
abbrev none : WordLabel
none = record { offset = 0; label = Fun 0 }

pub overflow_add-at : goal.overflow_add-at
overflow_add-at c =
    let inside = label_inside c.args.part.now c.as_slice-labels.result.now c.as_slice-labels.ensures c.loop-k.k (store_of c.args.store.now) (store_of c.loop-k.store) c.loop-k.invariant none c.loop-k-test.true c.loop-k.auto.k c.requires.labels in
    omega (arith, inside)

pub put_label-requires-clause-inside : goal.put_label-requires-clause-inside
put_label-requires-clause-inside c =
    let inside = label_inside c.args.part.now c.as_slice-labels.result.now c.as_slice-labels.ensures c.loop-k.k (store_of c.args.store.now) (store_of c.loop-k.store) c.loop-k.invariant none c.loop-k-test.true c.loop-k.auto.k c.requires.labels in
    omega (arith, inside)

pub loop-k-init : goal.loop-k-init
loop-k-init c =
    labels_none c.args.part.now c.as_slice-labels.result.now (length c.as_slice-labels.result.now) (store_of c.args.store.now) (store_of c.put_numbers.new.store) (omega arith) c.put_numbers.ensures.value

pub loop-k-preserved : goal.loop-k-preserved
loop-k-preserved c =
    label_step c.args.part.now c.as_slice-labels.result.now c.as_slice-labels.ensures c.loop-k.k (store_of c.args.store.now) (store_of c.loop-k.store) c.loop-k.invariant none c.loop-k-test.true c.loop-k.auto.k c.requires.labels
    (store_of c.put_label.new.store) c.put_label.ensures.value

pub returns-clause-value : goal.returns-clause-value
returns-clause-value c =
    labels_all c.args.part.now c.as_slice-labels.result.now c.as_slice-labels.ensures c.loop-k.k (store_of c.args.store.now) (store_of c.loop-k.store) c.loop-k.invariant (omega (arith, c.loop-k-test.false))
