use Rattle.spu_layout.proofs.Making.{shaped, table_inside, others_lie, made_layout, apart}
use Rattle.spu_layout.proofs.placing.lay_out.Goals as goal

pub region_starts-requires-clause-regions : goal.region_starts-requires-clause-regions
region_starts-requires-clause-regions c = (shaped c.args.p.now c.args.plan.now c.args.limit c.requires.well_formed c.requires.fits).store

pub section_starts-requires-clause-regions : goal.section_starts-requires-clause-regions
section_starts-requires-clause-regions c = (shaped c.args.p.now c.args.plan.now c.args.limit c.requires.well_formed c.requires.fits).store

pub function_spots-requires : goal.function_spots-requires
function_spots-requires c =
    others_lie c.args.p.now c.args.plan.now c.args.limit c.requires.well_formed c.requires.fits c.in_ok-sections.sections c.in_ok-sections.ensures.starts c.others.result.now c.others.ensures
    c.as_slice.result.now c.as_slice.ensures c.as_slice-2.result.now c.as_slice-2.ensures

pub tail-tail-requires-clause-inside : goal.tail-tail-requires-clause-inside
tail-tail-requires-clause-inside c = table_inside c.args.p.now c.args.plan.now c.args.limit (shaped c.args.p.now c.args.plan.now c.args.limit c.requires.well_formed c.requires.fits)

pub returns-clause-layout : goal.returns-clause-layout
returns-clause-layout c =
    made_layout c.args.p.now c.args.plan.now c.args.limit c.requires.well_formed c.requires.fits c.in_ok-sections.sections c.in_ok-sections.ensures.starts c.others.result.now c.others.ensures
    c.as_slice.result.now c.as_slice.ensures c.as_slice-2.result.now c.as_slice-2.ensures
    c.in_ok-functions.functions c.in_ok-functions.ensures c.tail-tail.result c.tail-tail.ensures c.buffers.result c.buffers.ensures

pub returns-clause-disjoint : goal.returns-clause-disjoint
returns-clause-disjoint c =
    apart c.args.p.now c.args.plan.now c.args.limit c.requires.well_formed c.requires.fits c.in_ok-sections.sections c.in_ok-sections.ensures.starts c.others.result.now c.others.ensures
    c.as_slice.result.now c.as_slice.ensures c.as_slice-2.result.now c.as_slice-2.ensures
    c.in_ok-functions.functions c.in_ok-functions.ensures c.tail-tail.result c.tail-tail.ensures c.buffers.result c.buffers.ensures
