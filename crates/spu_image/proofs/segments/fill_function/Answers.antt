use Rattle.std.proofs.Common.{◌≡◌, ◌+◌, ap, arith, subst, sym, length}
use Rattle.spu_layout.specs.Views.{layout_in}
use Rattle.spu_image.specs.Filling.{AreFilled}
use Rattle.spu_image.proofs.Filled.{item_there, item_few, put_section, put_inside, put_more, function_filled, no_instruction}
use Rattle.spu_image.proofs.segments.fill_function.Goals as goal

pub overflow_cast-i : goal.overflow_cast-i
overflow_cast-i c =
    let few = item_few c.args.p.now c.requires.laid.well c.args.f c.args.g.now c.requires.there c.as_slice-x-items.result.now c.as_slice-x-items.ensures c.loop-i.i c.loop-i-test.true in
    omega arith

pub place_word-word-requires-clause-there : goal.place_word-word-requires-clause-there
place_word-word-requires-clause-there c =
    item_there c.args.p.now c.requires.laid.well c.args.f c.args.g.now c.requires.there c.as_slice-x-items.result.now c.as_slice-x-items.ensures c.loop-i.i c.loop-i-test.true no_instruction

pub put_word-requires-clause-known : goal.put_word-requires-clause-known
put_word-requires-clause-known c =
    put_section c.args.p.now c.requires.laid.well c.args.f c.args.g.now c.requires.there c.as_slice-x-items.result.now c.as_slice-x-items.ensures c.loop-i.i c.loop-i-test.true
    (layout_in c.args.layout.now) c.requires.other no_instruction c.place_word-word.result c.place_word-word.ensures c.loop-i.sections c.loop-i.invariant

pub put_word-requires-clause-inside : goal.put_word-requires-clause-inside
put_word-requires-clause-inside c =
    put_inside c.args.p.now c.requires.laid.well c.args.f c.args.g.now c.requires.there c.as_slice-x-items.result.now c.as_slice-x-items.ensures c.loop-i.i c.loop-i-test.true
    (layout_in c.args.layout.now) c.requires.other no_instruction c.place_word-word.result c.place_word-word.ensures c.loop-i.sections c.loop-i.invariant

pub loop-i-preserved : goal.loop-i-preserved
loop-i-preserved c =
    let more = put_more c.args.p.now c.requires.laid.well c.args.f c.args.g.now c.requires.there c.as_slice-x-items.result.now c.as_slice-x-items.ensures c.loop-i.i c.loop-i-test.true
    (layout_in c.args.layout.now) c.requires.other no_instruction c.place_word-word.result c.place_word-word.ensures c.loop-i.sections c.loop-i.invariant in
    subst (AreFilled c.args.p.now (layout_in c.args.layout.now) c.args.f (c.loop-i.i + 1)) (sym c.put_word.ensures) more

pub returns : goal.returns
returns c =
    let long = ap length c.as_slice-x-items.ensures in
    let end : c.loop-i.i ≡ length c.args.g.now.code = omega (arith, long) in
    function_filled c.args.p.now (layout_in c.args.layout.now) c.args.f c.args.g.now c.requires.there c.loop-i.sections
    (subst (λ n. AreFilled c.args.p.now (layout_in c.args.layout.now) c.args.f n c.loop-i.sections) end c.loop-i.invariant)
