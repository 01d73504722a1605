use Rattle.std.proofs.Common.{◌≡◌, ◌+◌, ◌-◌, ◌*◌, ◌%◌, ◌++◌, ◌∷◌, [], List, length, ap, ◌∙◌, sym, arith}
use Rattle.std.proofs.lemmas.Iterator.Adapters.{YieldsList-from_vec}
use Rattle.std.proofs.lemmas.Iterator.Consumers.{YieldsList-turn}
use Rattle.spu_elf.specs.declared.executables.Segment.{Segment}
use Rattle.spu_image.specs.OverlayFilling.{region_segments}
use Rattle.spu_image.proofs.OverlayImages.{count_of_segments, loaded, overlaid_at, segments_more}
use Rattle.spu_image.proofs.overlays.segments.Goals as goal

pub overflow_cast-slot : goal.overflow_cast-slot
overflow_cast-slot c =
    let gives = c.into_iter-bytes-iterator.ensures.into_iter_gives in
    let ok = c.args.regions.ok in
    let same = gives.1 in
    let all = YieldsList-from_vec {s = c.into_iter-bytes-iterator.result} c.args.regions.items gives.0 (omega (arith, same, ok)) in
    let turn = YieldsList-turn all c.loop-bytes.yielded c.loop-bytes.bytes-iterator c.loop-bytes.yielded_by c.next.result c.next.new.self c.in-Some.bytes c.in-Some.is c.next.ensures.steps in
    let few = c.requires.few in
    let long = c.len.ensures.value in
    let is = ap (λ (ss : List Segment). length ss) c.loop-bytes.invariant.2 in
    let count = count_of_segments c.args.buffers c.args.plan.now 0 c.loop-bytes.yielded in
    let lt = turn.0 in
    omega (arith, lt, few, long, is, count)

pub loop-bytes-preserved : goal.loop-bytes-preserved
loop-bytes-preserved c =
    let plan = c.args.plan.now in
    let long = c.len.ensures.value in
    let is = ap (λ (ss : List Segment). length ss) c.loop-bytes.invariant.2 in
    let count = count_of_segments c.args.buffers c.args.plan.now 0 c.loop-bytes.yielded in
    let number : c.len.result - 1 ≡ 0 + length c.loop-bytes.yielded = omega (arith, long, is, count) in
    let added : c.push-in-loop-bytes.new.self ≡ loaded c.args.root ∷ region_segments c.args.buffers c.args.plan.now 0 (c.loop-bytes.yielded ++ c.in-Some.bytes ∷ []) =
    c.in_ok-push-2.ensures.ok
    ∙ (ap (λ (ss : List Segment). ss ++ overlaid_at (c.args.buffers + plan.buffer * ((c.len.result - 1) % plan.buffers)) c.in-Some.bytes ∷ []) c.loop-bytes.invariant.2
    ∙ (ap (λ n. loaded c.args.root ∷ (region_segments c.args.buffers c.args.plan.now 0 c.loop-bytes.yielded ++ overlaid_at (c.args.buffers + plan.buffer * (n % plan.buffers)) c.in-Some.bytes ∷ [])) number
    ∙ ap (λ (ss : List Segment). loaded c.args.root ∷ ss) (sym (segments_more c.args.buffers c.args.plan.now 0 c.loop-bytes.yielded c.in-Some.bytes)))) in
    (tt, tt, added)
