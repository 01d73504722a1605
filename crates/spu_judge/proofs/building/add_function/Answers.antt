use Rattle.std.proofs.Common.{List, length, ◌∙◌, ap, arith}
use Rattle.spu_lift.specs.declared.program.SymInst.{SymInst}
use Rattle.spu_judge.proofs.Adding.{place_more, function_done}
use Rattle.spu_judge.proofs.building.add_function.Goals as goal

pub loop-i-preserved : goal.loop-i-preserved
loop-i-preserved c = record {
  more = place_more c.args.p.now c.args.f c.loop-i.i c.edge_at.result _ _ _ c.in_ok-add.ensures.ok c.edge_at.ensures.edge c.loop-i.invariant.more;
  same = c.in_ok-add.ensures.frames ∙ c.loop-i.invariant.same;
}

pub returns-clause-ok : goal.returns-clause-ok
returns-clause-ok c =
    let whole = ap (λ (cs : List SymInst). length cs) c.code_of-i-end.ensures in
    function_done c.args.p.now c.args.f c.loop-i.i _ _ (omega (arith, whole)) c.loop-i.invariant.more
