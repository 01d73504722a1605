use Rattle.std.proofs.Common.{◌∙◌}
use Rattle.spu_ideal.proofs.Begun.{parts_inside, ears_inside, labels_inside, start_is, store_is}
use Rattle.spu_ideal.proofs.ideal.Ideal.started.Goals as goal

pub starting_store-requires-clause-parts : goal.starting_store-requires-clause-parts
starting_store-requires-clause-parts c = parts_inside c.args.p.now c.args.d.now c.args.limit c.requires c.as_slice.result.now c.as_slice.ensures

pub starting_store-requires-clause-labels : goal.starting_store-requires-clause-labels
starting_store-requires-clause-labels c = labels_inside c.args.p.now c.args.d.now c.args.limit c.requires c.as_slice.result.now c.as_slice.ensures

pub starting_store-requires-clause-ears : goal.starting_store-requires-clause-ears
starting_store-requires-clause-ears c = ears_inside c.args.p.now c.args.d.now c.args.limit c.requires c.as_slice-2.result.now c.as_slice-2.ensures

pub returns-clause-start : goal.returns-clause-start
returns-clause-start c =
    start_is c.args.p.now c.args.limit c.args.inputs.now _ _ _ _ _ _ _ _
    c.in_ok-regs.ensures.value
    (store_is c.args.p.now c.args.inputs.now _ c.as_slice-2.result.now c.as_slice-areas.result.now c.as_slice.result.now c.in_ok-store.ensures.value c.as_slice-2.ensures c.as_slice-areas.ensures c.as_slice.ensures)
    c.in_ok-calls.ensures.items c.zero.ensures c.in_ok-queue.ensures.items (c.in_ok-areas.ensures ∙ c.as_slice-areas.ensures) (c.in_ok-mail.ensures.items ∙ c.as_slice-3.ensures) c.in_ok-output.ensures.items
