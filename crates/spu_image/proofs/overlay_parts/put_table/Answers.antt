use Rattle.std.proofs.Common.{◌≡◌, ◌<◌, ◌+◌, ◌*◌, ◌%◌, [], List, ℕ, length, get_or, refl, ap, ◌∙◌, arith}
use Rattle.spu_image.proofs.RegionBytes.{at_any}
use Rattle.spu_image.proofs.Tables.{begins_near, end_is, entries_next, entry_is, place_is}
use Rattle.spu_image.proofs.overlay_parts.put_table.Goals as goal

pub loop-r-preserved : goal.loop-r-preserved
loop-r-preserved c =
    let p = c.args.p.now in
    let plan = c.args.plan.now in
    let regions = c.args.regions.now in
    let are = c.requires.regions in
    let lt : c.loop-r.r < length c.args.regions.now = c.loop-r-test.true in
    let n = are.count in
    let few : c.loop-r.r < plan.regions = omega (arith, lt, n) in
    let item : c.index-regions-r.result ≡ get_or c.args.regions.now c.loop-r.r [] = c.index-regions-r.is ∙ at_any c.args.regions.now c.loop-r.r c.index-regions-r.result [] lt in
    let own : c.len-in-loop-r.result ≡ length (get_or c.args.regions.now c.loop-r.r []) = c.len-in-loop-r.ensures.value ∙ ap (λ (bs : List ℕ). length bs) item in
    let size : c.len.result ≡ length (get_or c.args.regions.now c.loop-r.r []) = c.len.ensures.value ∙ ap (λ (bs : List ℕ). length bs) item in
    record {
      end = ap (λ o. o + c.len-in-loop-r.result) c.begins-offset.ensures ∙ end_is p plan regions are c.args.load_size c.requires.load c.loop-r.r c.loop-r.end c.len-in-loop-r.result lt c.loop-r.invariant.end own;
      low = (let near = begins_near c.loop-r.end in let is = c.begins-offset.ensures in let small = are.small c.loop-r.r few in let low = c.loop-r.invariant.low in omega (arith, near, is, own, small, low));
      out = entries_next p plan regions are c.args.load_size c.requires.load c.loop-r.r c.args.out.now c.loop-r.out c.put_words.new.out _ c.loop-r.invariant.out c.in_ok-put_words.ensures
          (entry_is p plan regions are c.args.load_size c.requires.load c.loop-r.r (c.args.buffers + plan.buffer * (c.loop-r.r % plan.buffers)) c.len.result c.begins-offset.result (c.loop-r.r % plan.buffers + 1) few
          (ap (λ b. b + plan.buffer * (c.loop-r.r % plan.buffers)) c.requires.buffers) size (c.begins-offset.ensures ∙ place_is p plan regions are c.args.load_size c.requires.load c.loop-r.r c.loop-r.end lt c.loop-r.invariant.end) refl);
    }
