use Rattle.std.proofs.Common.{drop, arith}
use Rattle.std.proofs.lemmas.List.{length-drop}
use Rattle.spu_lift.specs.StartCode.{start_code}
use Rattle.spu_layout.specs.Views.{layout_in}
use Rattle.spu_image.proofs.Stubs.{stub_added, stub_is}
use Rattle.spu_image.proofs.overlay_parts.put_stubs.Goals as goal

pub loop-f-preserved : goal.loop-f-preserved
loop-f-preserved c =
    let some = c.loop-f.auto.f in
    let test = c.loop-f-test.true in
    let long = c.len-f-end.ensures.value in
    let others = length-drop 1 c.args.p.now.functions in
    stub_added c.args.loader (layout_in c.args.layout.now) (drop 1 c.args.p.now.functions) (start_code c.args.p.now.data_end c.args.p.now.entry) c.loop-f.f some (omega (arith, some, test, long, others))
    c.args.out.now c.loop-f.out c.put_words.new.out c.stub_words-words.result c.loop-f.invariant
    (stub_is c.args.loader c.code-at.result c.region.result c.address.result _ _ _ c.stub_words-words.result c.code-at.ensures c.region.ensures c.address.ensures c.stub_words-words.ensures)
    c.in_ok-put_words.ensures
