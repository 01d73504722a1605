use Rattle.std.proofs.Common.{◌-◌, ap, ◌∙◌, refl, arith}
use Rattle.spu_plan.specs.declared.input.Mode.TheVariants.{Always}
use Rattle.spu_layout.specs.Placing.{section_sizes}
use Rattle.spu_image.proofs.FlatPlans.{allowed_is}
use Rattle.spu_image_tests.proofs.overlays.plan_input.Goals as goal

pub returns-clause-allowed : goal.returns-clause-allowed
returns-clause-allowed c =
    allowed_is c.args.p.now c.requires 16384 c.as_slice-code.result.now c.as_slice-code.ensures c.in_ok-section_sizes.field-0 c.in_ok-section_sizes.ensures c.in_ok-rooted.field-0 c.in_ok-rooted.ensures (c.len.result - 1) Always

pub returns-clause-of : goal.returns-clause-of
returns-clause-of c = record {
  sizes = c.in_ok-section_sizes.ensures ∙ ap section_sizes c.as_slice-code.ensures;
  data_end = refl;
  functions = (let some = c.requires.entry.1 in let long = c.len.ensures.value in omega (arith, some, long));
  room = refl;
}
