use Rattle.std.proofs.Common.{◌∙◌, arith}
use Rattle.spu_judge.proofs.Adding.{function_more, all_made, each_made}
use Rattle.spu_judge.proofs.building.graph_of.Goals as goal

pub loop-f-preserved : goal.loop-f-preserved
loop-f-preserved c = record {
  more = function_more c.args.p.now c.loop-f.f _ _ c.loop-f.invariant.more c.in_ok-add_function.ensures.ok;
  same = c.in_ok-add_function.ensures.frames ∙ c.loop-f.invariant.same;
}

pub returns-clause-made : goal.returns-clause-made
returns-clause-made c = all_made c.args.p.now c.loop-f.f _ _ c.loop-f.invariant.more c.in_ok-add_taken.ensures.ok

pub returns-clause-each : goal.returns-clause-each
returns-clause-each c =
    let count = c.pointer_node-f-end.ensures in
    each_made c.args.p.now c.loop-f.f _ _ (omega (arith, count)) c.loop-f.invariant.more c.in_ok-add_taken.ensures.ok
