use Rattle.std.proofs.Common.{◌<◌, length, arith}
use Rattle.spu_lift.proofs.Noting.{noted_more}
use Rattle.spu_lift.proofs.relocations.Relocations.note_all.Goals as goal

pub loop-index-preserved : goal.loop-index-preserved
loop-index-preserved c =
    let less : c.loop-index.index < length c.args.relocs.now = omega arith in
    λ q. noted_more c.args.object c.args.relocs.now c.loop-index.index _ less q _ _ _ (c.loop-index.invariant q) (c.in_ok-note.ensures q)
