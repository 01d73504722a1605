use Rattle.std.proofs.Common.{◌≡◌, arith, sym, ap, ◌∙◌, refl, length}
use Rattle.std.specs.Prelude.{max}
use Rattle.spu_layout.specs.Views.{layout_in}
use Rattle.spu_image.specs.Filling.{empty_sections}
use Rattle.spu_image.proofs.Filled.{none_filled, function_there, filled_at}
use Rattle.spu_image.proofs.segments.section_words.Goals as goal

pub loop-f-init : goal.loop-f-init
loop-f-init c =
    filled_at c.args.p.now (layout_in c.args.layout.now) 1 1 (empty_sections c.args.p.now.code) c.in_ok-sections.sections.items refl
    (sym (c.in_ok-sections.ensures ∙ ap empty_sections c.as_slice.ensures)) (none_filled c.args.p.now (layout_in c.args.layout.now))

pub fill_function-requires-clause-there : goal.fill_function-requires-clause-there
fill_function-requires-clause-there c = function_there c.args.p.now c.as_slice-g-items.result.now c.loop-f.f c.g-item.result c.as_slice-g-items.ensures c.loop-f-test.true c.g-item.is

pub fill_function-requires-clause-filled : goal.fill_function-requires-clause-filled
fill_function-requires-clause-filled c =
    let ne = c.if-f-ne0.true in
    let same : max 1 c.loop-f.f ≡ c.loop-f.f = omega (arith, ne) in
    filled_at c.args.p.now (layout_in c.args.layout.now) (max 1 c.loop-f.f) c.loop-f.f c.loop-f.sections.items c.deref_mut.result.now same (sym c.deref_mut.ensures.value) c.loop-f.invariant

pub returns : goal.returns
returns c =
    let some = c.requires.well.entry.1 in
    let long = ap length c.as_slice-g-items.ensures in
    let same : max 1 c.loop-f.f ≡ length c.args.p.now.functions = omega (arith, some, long) in
    filled_at c.args.p.now (layout_in c.args.layout.now) (max 1 c.loop-f.f) (length c.args.p.now.functions) c.loop-f.sections.items c.loop-f.sections.items same refl c.loop-f.invariant
