use Rattle.std.proofs.Common.{◌≡◌, ◌+◌, ap, arith, subst, sym, ◌∙◌}
use Rattle.spu_gen.specs.Workloads.{HasFunctions, code_of, lines_of, next}
use Rattle.spu_gen.proofs.Formed.{workload_formed}
use Rattle.spu_gen.proofs.Growing.{draw_more, functions_more}
use Rattle.spu_gen.proofs.workloads.workload.Goals as goal

pub loop-index-preserved : goal.loop-index-preserved
loop-index-preserved c =
    let index = c.loop-index.index in
    let lines : c.deref.result.now ≡ lines_of c.args.seed c.args.count index = c.deref.ensures.value ∙ c.in_ok-lines.ensures.exact ∙ ap (code_of c.args.count index) c.loop-index.invariant.1 in
    let added = c.in_ok-add_function.ensures in (
      functions_more c.args.seed c.args.count index c.deref.result.now c.loop-index.object _ c.loop-index.invariant.0 lines added.section added.symbol added.relocs,
      c.next-draw.ensures ∙ ap next c.loop-index.invariant.1 ∙ sym (draw_more c.args.seed index),
    )

pub returns-clause-formed : goal.returns-clause-formed
returns-clause-formed c =
    let most = c.loop-index.auto.index-end in
    let over = c.loop-index-test.false in
    let end : c.loop-index.index ≡ c.args.count + 1 = omega (arith, most, over) in
    workload_formed c.args.seed c.args.count c.loop-index.object c.requires.least c.requires.most
    (subst (λ n. HasFunctions c.args.seed c.args.count n c.loop-index.object) end c.loop-index.invariant.0)
