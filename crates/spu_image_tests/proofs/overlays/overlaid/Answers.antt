use Rattle.std.proofs.Common.{ap, ◌∙◌}
use Rattle.std.specs.Prelude.{if◌then◌else◌}
use Rattle.spu_layout.specs.Placing.{flat_layout, overlay_layout}
use Rattle.spu_image_tests.proofs.overlays.overlaid.Goals as goal

pub overlay_exec-requires : goal.overlay_exec-requires
overlay_exec-requires c = record {
  limit = 16384;
  well = c.requires;
  planned = record { input = c.in_ok-input.input; allowed = c.in_ok-input.ensures.allowed; of = c.in_ok-input.ensures.of; is = c.in-Ok.ensures.value };
  overlay = c.if-plan.true;
  is = c.in_ok-layout-in-Ok.ensures.layout ∙ ap (λ v. if v then overlay_layout c.args.p.now c.in-Ok.plan 16384 else flat_layout c.args.p.now c.in-Ok.plan 16384) c.if-plan.true;
  functions = c.in_ok-layout-in-Ok.ensures.functions;
}
