use Rattle.std.proofs.Common.{◌∙◌, arith}
use Rattle.spu_layout.specs.Views.{layout_in}
use Rattle.spu_image.proofs.DataBytes.{next_put, last_put}
use Rattle.spu_image.proofs.parts.data_bytes.Goals as goal

pub loop-part-preserved : goal.loop-part-preserved
loop-part-preserved c =
    next_put c.args.p.now (layout_in c.args.layout.now) c.as_slice-part-items.result.now c.loop-part.part-index c.part-item.result c.loop-part-test.true c.part-item.is c.loop-part.bytes c.loop-part.invariant
    c.len.result c.extend_zeros.new.self c.as_slice.result.now c.extend.new.self c.len.ensures.value c.in_ok-extend_zeros.ensures.ok (c.as_slice.ensures ∙ c.in_ok-part_bytes.ensures) c.in_ok-extend.ensures.ok

pub returns : goal.returns
returns c =
    last_put c.args.p.now (layout_in c.args.layout.now) c.as_slice-part-items.result.now c.loop-part.part-index (omega (arith, c.loop-part-test.false)) c.loop-part.bytes c.loop-part.invariant
    c.len-2.result c.extend_zeros-2.new.self c.len-2.ensures.value c.in_ok-extend_zeros-2.ensures.ok
