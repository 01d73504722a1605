use Rattle.std.proofs.Common.{◌≡◌, ◌<◌, ◌+◌, ◌++◌, [], List, ℕ, length, get_or, sym, ap, ◌∙◌, subst, arith}
use Rattle.std.specs.Prelude.{slice_index, slice_index_or, slice_set}
use Rattle.spu_image.specs.Images.{bytes_of_words}
use Rattle.spu_image.specs.OverlayFilling.{AreRegionBytes}
use Rattle.spu_image.proofs.RegionBytes.{at_any, region_grown}
use Rattle.spu_image.proofs.overlay_parts.region_bytes.Goals as goal

pub loop-k-preserved : goal.loop-k-preserved
loop-k-preserved c =
    let plan = c.args.plan.now in
    let same : c.as_slice-region_of.result.now ≡ plan.region_of = c.as_slice-region_of.ensures in
    let inside : c.loop-k.k < length c.args.sections.now = c.loop-k-test.true in
    let low = c.requires.known c.loop-k.k inside in
    let n = c.requires.count in
    let long = c.loop-k.invariant.count in
    let known : slice_index plan.region_of c.loop-k.k < length c.loop-k.regions.items = omega (arith, low, long) in
    let held : c.index_mut-region.result.now ≡ get_or c.loop-k.regions.items (slice_index plan.region_of c.loop-k.k) [] =
    c.index_mut-region.ensures.value ∙ (ap (λ (rs : List ℕ). get_or c.loop-k.regions.items (slice_index rs c.loop-k.k) c.index_mut-region.result.now) same
    ∙ at_any c.loop-k.regions.items (slice_index plan.region_of c.loop-k.k) c.index_mut-region.result.now [] known) in
    subst (λ (rs : List ℕ). AreRegionBytes plan c.args.sections.now (c.loop-k.k + 1) (slice_set c.loop-k.regions.items (slice_index_or rs c.loop-k.k 0) c.put_words.new.out)) (sym same)
    (region_grown plan c.args.sections.now c.loop-k.k (omega (arith, inside, n)) inside c.loop-k.regions.items c.loop-k.invariant low c.put_words.new.out c.as_slice.result.now
    (c.as_slice.ensures ∙ (c.index-sections-k.is ∙ at_any c.args.sections.now c.loop-k.k c.index-sections-k.result [] inside))
    (c.in_ok-put_words.ensures ∙ ap (λ (bs : List ℕ). bs ++ bytes_of_words c.as_slice.result.now) held))
