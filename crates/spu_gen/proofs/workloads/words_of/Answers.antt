use Rattle.spu_gen.specs.declared.lines.Line.TheVariants.{KeepLink}
use Rattle.spu_gen.proofs.Words.{words_more}
use Rattle.spu_gen.proofs.workloads.words_of.Goals as goal

pub loop-line-preserved : goal.loop-line-preserved
loop-line-preserved c =
    words_more c.args.lines.now c.loop-line.line-index KeepLink c.bare.result c.encode.result c.loop-line.bytes c.digits.result _ c.loop-line-test.true c.bare.ensures.exact c.encode.ensures
    c.digits.ensures c.in_ok-extend.ensures.ok c.loop-line.invariant
