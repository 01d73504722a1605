use Rattle.std.proofs.Common.{sym, arith}
use Rattle.std.specs.Prelude.{pos}
use Rattle.spu_frame.proofs.Formed.{code_small}
use Rattle.spu_judge.proofs.Adding.{place_edge}
use Rattle.spu_judge.proofs.Pointing.{edge_small}
use Rattle.spu_judge.proofs.building.edge_at.Goals as goal

pub overflow_cast-i : goal.overflow_cast-i
overflow_cast-i c =
    let small = code_small c.args.p.now c.requires.formed c.args.f c.requires.f in
    let lt = c.requires.i in
    omega (arith, small, lt)

pub returns-in-Some-clause-edge : goal.returns-in-Some-clause-edge
returns-in-Some-clause-edge c =
    place_edge c.args.p.now c.args.f c.args.i c.instruction.result.now (pos c.in-Some.field-0)
    (c.requires.depths.some c.args.f c.args.i c.in-Some.field-0 (sym c.in-Some.ensures)) c.instruction.ensures c.edge_of.result c.edge_of.ensures

pub returns-in-Some-clause-to : goal.returns-in-Some-clause-to
returns-in-Some-clause-to c = edge_small c.args.p.now c.requires.formed c.args.f c.args.i c.edge_of.result (returns-in-Some-clause-edge c)

pub returns-in-None-clause-edge : goal.returns-in-None-clause-edge
returns-in-None-clause-edge c = λ e out. c.requires.depths.none c.args.f c.args.i out.depth (sym c.in-None.ensures) out.reached
