use Rattle.spu_graph.proofs.Traces.{open_leads, open_undone, never_closed}
use Rattle.spu_graph.proofs.trace.undone_callee.Goals as goal

pub returns-in-Some-clause-leads : goal.returns-in-Some-clause-leads
returns-in-Some-clause-leads c = open_leads _ c.args.needs.now c.args.f c.in-Some.e c.edge.result c.edge.ensures.is c.in-Some.ensures.on

pub returns-in-Some-clause-undone : goal.returns-in-Some-clause-undone
returns-in-Some-clause-undone c = open_undone _ c.args.needs.now c.in-Some.e c.edge.result c.edge.ensures.is c.in-Some.ensures.open

pub returns-in-None-clause-leads : goal.returns-in-None-clause-leads
returns-in-None-clause-leads c = absurd (never_closed _ _ _ c.args.f c.first_call.result c.requires.peeled c.requires.f c.first_call.ensures.all c.in-None.ensures.passed)
