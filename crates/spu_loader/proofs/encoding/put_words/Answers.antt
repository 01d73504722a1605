use Rattle.std.proofs.Common.{map, take, arith}
use Rattle.spu_isa.specs.Decoding.{decoded}
use Rattle.spu_loader.proofs.Written.{word_written}
use Rattle.spu_loader.proofs.encoding.put_words.Goals as goal

pub loop-i-preserved : goal.loop-i-preserved
loop-i-preserved c =
    let room = c.requires.room in
    let long = c.loop-i.auto.words in
    let more = c.loop-i-test.true in
    word_written c.loop-i.words c.args.code.now c.args.at c.loop-i.i c.encode.result _ (map decoded (take c.args.at c.args.words.now)) (omega arith) more c.encode.ensures c.loop-i.invariant
