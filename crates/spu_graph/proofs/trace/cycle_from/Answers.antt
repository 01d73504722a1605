use Rattle.std.proofs.Common.{ap, ◌∙◌, Some}
use Rattle.spu_graph.proofs.Traces.{begins_so, within, found_within, here, steps, nearer, cycle, cycle_if}
use Rattle.spu_graph.proofs.trace.cycle_from.Goals as goal

pub loop-first-init : goal.loop-first-init
loop-first-init c = begins_so _ _ c.args.needs.now c.args.entry c.count.result _ _ c.count.ensures c.requires.entry c.in_ok-trace.ensures.path c.in_ok-trace.ensures.indices

pub index_of-requires : goal.index_of-requires
index_of-requires c = within _ _ c.args.needs.now c.args.entry _ _ c.loop-first.f c.loop-first.invariant c.requires.peeled.all

pub from-requires : goal.from-requires
from-requires c = found_within _ _ c.args.needs.now c.args.entry _ _ c.loop-first.f c.loop-first.invariant c.in-Some.first (c.index_of.ensures ∙ ap Some c.in-Some.is)

pub returns-in-Some : goal.returns-in-Some
returns-in-Some c = cycle_if _ c.args.entry _ c.from.result c.from.ensures
    (cycle _ _ c.args.needs.now c.args.entry _ _ c.loop-first.f c.loop-first.invariant c.in-Some.first (c.index_of.ensures ∙ ap Some c.in-Some.is))

pub visit-requires : goal.visit-requires
visit-requires c = within _ _ c.args.needs.now c.args.entry _ _ c.loop-first.f c.loop-first.invariant c.requires.peeled.all

pub undone_callee-f-requires-clause-f : goal.undone_callee-f-requires-clause-f
undone_callee-f-requires-clause-f c = here _ _ c.args.needs.now c.args.entry _ _ c.loop-first.f c.loop-first.invariant

pub loop-first-preserved : goal.loop-first-preserved
loop-first-preserved c = steps _ _ c.args.needs.now c.args.entry _ _ c.loop-first.f c.loop-first.invariant c.undone_callee-f.result _ _ c.requires.peeled.all
    (c.index_of.ensures ∙ ap Some c.in-None.is) c.undone_callee-f.ensures.undone c.undone_callee-f.ensures.leads c.in_ok-visit-in-None.ensures.path c.in_ok-visit-in-None.ensures.indices

pub loop-first-smaller : goal.loop-first-smaller
loop-first-smaller c = nearer _ _ c.args.needs.now c.args.entry _ c.loop-first.f _ _ c.undone_callee-f.result c.in_ok-visit-in-None.ensures.path (loop-first-preserved c) c.requires.peeled.all
