use Rattle.std.proofs.Common.{◌-◌}
use Rattle.spu_image.proofs.FlatPlans.{input_is}
use Rattle.spu_image.proofs.planning.flat_input.Goals as goal

pub returns : goal.returns
returns c =
    input_is c.args.p.now c.requires.formed c.args.limit c.as_slice-code.result.now c.as_slice-code.ensures c.in_ok-section_sizes.field-0 c.in_ok-section_sizes.ensures c.in_ok-rooted.field-0 c.in_ok-rooted.ensures (c.len.result - 1)
