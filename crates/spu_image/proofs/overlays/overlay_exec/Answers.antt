use Rattle.std.proofs.Common.{◌≡◌, ◌+◌, List, ℕ, length, sym, ap, ◌∙◌, subst, arith}
use Rattle.spu_word.specs.declared.limits.TheConstants.{QUAD_SIZE}
use Rattle.spu_layout.specs.declared.layout.Span.{Span}
use Rattle.spu_layout.specs.Placing.{constants_start}
use Rattle.spu_layout.specs.Views.{layout_in}
use Rattle.spu_image.specs.Filling.{AreFilled, told_in}
use Rattle.spu_image.specs.OverlayFilling.{AreRegions, IsRootSegment, offset_of}
use Rattle.spu_image.proofs.Laid.{inside, start_there}
use Rattle.spu_image.proofs.OverlayImages.{exec_made, regions_are, rest_count, root_long}
use Rattle.spu_image.proofs.Overlaying.{buffers_from, ends, few_regions, laid_out, short, slots_inside, slots_to, some_buffers, store}
use Rattle.spu_image.proofs.overlays.overlay_exec.Goals as goal

pub section_words-requires : goal.section_words-requires
section_words-requires c = laid_out c.args.p.now c.args.plan.now c.args.layout.now c.requires

pub region_bytes-requires-clause-count : goal.region_bytes-requires-clause-count
region_bytes-requires-clause-count c =
    (store c.args.p.now c.args.plan.now c.args.layout.now c.requires).count
    ∙ (sym c.in_ok-sections.ensures.count ∙ sym (ap (λ (ss : List (List ℕ)). length ss) c.deref.ensures.value))

pub region_bytes-requires-clause-known : goal.region_bytes-requires-clause-known
region_bytes-requires-clause-known c = λ k lt.
    (let count = c.in_ok-sections.ensures.count in
    let same = ap (λ (ss : List (List ℕ)). length ss) c.deref.ensures.value in
    (store c.args.p.now c.args.plan.now c.args.layout.now c.requires).known k (omega (arith, lt, count, same)))

pub region_bytes-requires-clause-few : goal.region_bytes-requires-clause-few
region_bytes-requires-clause-few c =
    let few = few_regions c.args.p.now c.args.plan.now c.args.layout.now c.requires in
    let low = short c.args.p.now c.args.plan.now c.args.layout.now c.requires in
    omega (arith, few, low)

pub load_segment-requires-clause-root : goal.load_segment-requires-clause-root
load_segment-requires-clause-root c =
    let filled = subst (AreFilled c.args.p.now (layout_in c.args.layout.now) (length c.args.p.now.functions) 0) (sym c.deref.ensures.value) c.in_ok-sections.ensures in
    ap (λ (bs : List ℕ). length bs) c.as_slice.ensures
    ∙ root_long c.args.p.now c.args.plan.now c.args.layout.now c.requires c.deref.result.now filled c.in_ok-regions.regions.items c.in_ok-regions.ensures c.remove-root.result c.remove-root.ensures.value
    c.remove-root.new.self.items c.remove-root.ensures.items (let len = c.remove-root.ensures.len in let ok = c.remove-root.new.self.ok in let was = c.in_ok-regions.regions.ok in omega (arith, len, ok, was))

pub load_segment-requires-clause-regions : goal.load_segment-requires-clause-regions
load_segment-requires-clause-regions c =
    let filled = subst (AreFilled c.args.p.now (layout_in c.args.layout.now) (length c.args.p.now.functions) 0) (sym c.deref.ensures.value) c.in_ok-sections.ensures in
    subst (AreRegions c.args.p.now c.args.plan.now) (sym c.deref-2.ensures.value)
    (regions_are c.args.p.now c.args.plan.now c.args.layout.now c.requires c.deref.result.now filled c.in_ok-regions.regions.items c.in_ok-regions.ensures c.remove-root.result c.remove-root.ensures.value
    c.remove-root.new.self.items c.remove-root.ensures.items (let len = c.remove-root.ensures.len in let ok = c.remove-root.new.self.ok in let was = c.in_ok-regions.regions.ok in omega (arith, len, ok, was)))

pub address-requires-clause-inside : goal.address-requires-clause-inside
address-requires-clause-inside c =
    inside c.args.p.now c.args.layout.now (laid_out c.args.p.now c.args.plan.now c.args.layout.now c.requires) 0 0 (start_there c.args.p.now c.requires.well)

pub segments-requires-clause-end : goal.segments-requires-clause-end
segments-requires-clause-end c =
    let is = ap (λ (s : Span). s.from) c.areas.ensures.buffer in
    let from = buffers_from c.args.p.now c.args.plan.now c.args.layout.now c.requires in
    let end = ends c.args.p.now c.args.plan.now c.args.layout.now c.requires in
    omega (arith, is, from, end)

pub segments-requires-clause-some : goal.segments-requires-clause-some
segments-requires-clause-some c = (let some = some_buffers c.args.p.now c.args.plan.now c.args.layout.now c.requires in omega (arith, some))

pub segments-requires-clause-few : goal.segments-requires-clause-few
segments-requires-clause-few c =
    let filled = subst (AreFilled c.args.p.now (layout_in c.args.layout.now) (length c.args.p.now.functions) 0) (sym c.deref.ensures.value) c.in_ok-sections.ensures in
    let count = rest_count c.args.p.now c.args.plan.now c.args.layout.now c.requires c.deref.result.now filled c.in_ok-regions.regions.items c.in_ok-regions.ensures c.remove-root.result c.remove-root.ensures.value
    c.remove-root.new.self.items c.remove-root.ensures.items (let len = c.remove-root.ensures.len in let ok = c.remove-root.new.self.ok in let was = c.in_ok-regions.regions.ok in omega (arith, len, ok, was)) in
    let few = few_regions c.args.p.now c.args.plan.now c.args.layout.now c.requires in
    let low = short c.args.p.now c.args.plan.now c.args.layout.now c.requires in
    omega (arith, count, few, low)

pub of-requires-clause-inside : goal.of-requires-clause-inside
of-requires-clause-inside c = slots_inside c.args.p.now c.args.plan.now c.args.layout.now c.requires

pub overlay_symbols-requires : goal.overlay_symbols-requires
overlay_symbols-requires c = laid_out c.args.p.now c.args.plan.now c.args.layout.now c.requires

pub returns : goal.returns
returns c =
    let p = c.args.p.now in
    let plan = c.args.plan.now in
    let layout = c.args.layout.now in
    let filled = subst (AreFilled p (layout_in layout) (length p.functions) 0) (sym c.deref.ensures.value) c.in_ok-sections.ensures in
    let count : length c.remove-root.new.self.items + 1 ≡ length c.in_ok-regions.regions.items =
    (let len = c.remove-root.ensures.len in let ok = c.remove-root.new.self.ok in let was = c.in_ok-regions.regions.ok in omega (arith, len, ok, was)) in
    let made = subst (λ (bs : List ℕ). IsRootSegment p plan (layout_in layout) c.args.limit bs (offset_of (length c.in_ok-load.load) c.remove-root.new.self.items) c.in_ok-load.load) c.as_slice.ensures
    (subst (λ (rs : List (List ℕ)). IsRootSegment p plan (layout_in layout) c.args.limit c.as_slice.result.now (offset_of (length c.in_ok-load.load) rs) c.in_ok-load.load) c.deref-2.ensures.value c.in_ok-load.ensures) in
    let to = slots_to p plan layout c.requires in
    let image = c.of.ensures.image in
    let there : c.of.result.image ≡ constants_start p plan + QUAD_SIZE = omega (arith, to, image) in
    exec_made p plan layout c.requires c.deref.result.now filled c.in_ok-regions.regions.items c.in_ok-regions.ensures c.remove-root.result c.remove-root.ensures.value c.remove-root.new.self.items c.remove-root.ensures.items count
    c.args.limit c.in_ok-load.load made c.areas.result.buffer.from (ap (λ (s : Span). s.from) c.areas.ensures.buffer ∙ buffers_from p plan layout c.requires) c.in_ok-segments.field-0 c.in_ok-segments.ensures
    (told_in c.args.told.now) c.address.result c.address.ensures c.of.result.image there c.in_ok-overlay_symbols.field-0 c.in_ok-overlay_symbols.ensures
