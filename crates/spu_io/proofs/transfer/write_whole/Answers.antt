use Rattle.std.proofs.Common.{arith, length-drop, take, subst}
use Rattle.std.proofs.lemmas.List.{take_rest}
use Rattle.std.specs.Io.KnownBytes.{Appends}
use Rattle.spu_io.proofs.Streams.{appends_further}
use Rattle.spu_io.proofs.transfer.write_whole.Goals as goal

pub loop-written-preserved : goal.loop-written-preserved
loop-written-preserved g c =
    let n = c.in_ok-written.field-0 in
    let bound = c.in_ok-written.ensures.bound in
    let rest = take_rest c.args.bytes.now c.loop-written.written in
    let piece = subst (λ r. Appends (g.W.Write.contents c.loop-written.writer) (g.W.Write.contents c.write_some.new.writer) (take n r)) rest c.in_ok-written.ensures.bytes in
    (omega (arith, bound, length-drop c.loop-written.written c.args.bytes.now), appends_further _ _ _ c.args.bytes.now c.loop-written.written n c.loop-written.invariant.1 piece)
