use Rattle.spu_lift.specs.declared.program.Label.TheVariants.{Fun}
use Rattle.spu_lift.specs.declared.program.WordLabel.{WordLabel}
use Rattle.spu_layout.specs.Views.{layout_in}
use Rattle.spu_image.proofs.Laid.{label_known, label_inside}
use Rattle.spu_image.proofs.DataBytes.{item_taken, item_inside, item_written}
use Rattle.spu_image.proofs.parts.part_bytes.Goals as goal

-- the label that the code reads where there is none
abbrev none : WordLabel
none = record { offset = 0; label = Fun 0 }

pub code-requires-clause-known : goal.code-requires-clause-known
code-requires-clause-known c =
    label_known c.args.p.now c.args.layout.now c.requires.laid _ (item_taken c.args.p.now c.requires.laid.well (layout_in c.args.layout.now) c.args.part.now c.requires.there
    c.as_slice-labels.result.now c.as_slice-labels.ensures c.loop-i.i c.loop-i-test.true c.loop-i.auto.i none c.loop-i.bytes c.loop-i.invariant)

pub code-requires-clause-inside : goal.code-requires-clause-inside
code-requires-clause-inside c =
    label_inside c.args.p.now c.args.layout.now c.requires.laid _ (item_taken c.args.p.now c.requires.laid.well (layout_in c.args.layout.now) c.args.part.now c.requires.there
    c.as_slice-labels.result.now c.as_slice-labels.ensures c.loop-i.i c.loop-i-test.true c.loop-i.auto.i none c.loop-i.bytes c.loop-i.invariant)

pub write_word-requires : goal.write_word-requires
write_word-requires c =
    item_inside c.args.p.now c.requires.laid.well (layout_in c.args.layout.now) c.args.part.now c.requires.there
    c.as_slice-labels.result.now c.as_slice-labels.ensures c.loop-i.i c.loop-i-test.true c.loop-i.auto.i none c.loop-i.bytes c.loop-i.invariant

pub loop-i-preserved : goal.loop-i-preserved
loop-i-preserved c =
    item_written c.args.p.now c.requires.laid.well (layout_in c.args.layout.now) c.args.part.now c.requires.there
    c.as_slice-labels.result.now c.as_slice-labels.ensures c.loop-i.i c.loop-i-test.true c.loop-i.auto.i none c.loop-i.bytes c.loop-i.invariant
    c.code.result c.write_word.new.bytes c.code.ensures c.write_word.ensures
