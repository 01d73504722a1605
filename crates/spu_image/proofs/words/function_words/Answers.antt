use Rattle.std.proofs.Common.{arith, sym}
use Rattle.spu_layout.specs.Views.{layout_in}
use Rattle.spu_image.proofs.Filled.{item_there, item_few, no_instruction, words_next}
use Rattle.spu_image.proofs.words.function_words.Goals as goal

pub overflow_cast-i : goal.overflow_cast-i
overflow_cast-i c =
    let g = c.requires.there in
    let few = item_few c.args.p.now c.requires.laid.well c.args.f g.0 g.1 c.args.code.now (sym g.2) c.loop-i.i c.loop-i-test.true in
    omega arith

pub place_word-requires-clause-there : goal.place_word-requires-clause-there
place_word-requires-clause-there c =
    let g = c.requires.there in
    item_there c.args.p.now c.requires.laid.well c.args.f g.0 g.1 c.args.code.now (sym g.2) c.loop-i.i c.loop-i-test.true no_instruction

pub loop-i-preserved : goal.loop-i-preserved
loop-i-preserved c =
    words_next (layout_in c.args.layout.now) c.args.f c.args.code.now c.loop-i.i no_instruction c.place_word.result c.loop-i.words c.push.new.self c.loop-i-test.true c.loop-i.invariant c.place_word.ensures c.in_ok-push.ensures.ok
