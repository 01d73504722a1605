use Rattle.std.proofs.Common.{ℕ, List, ◌+◌, ◌≤◌, sym, ap, ◌∙◌, subst, arith}
use Rattle.std.specs.Prelude.{slice_index}
use Rattle.spu_word.specs.declared.limits.TheConstants.{MAX_STACK_LIMIT}
use Rattle.spu_frame.specs.Found.{depth_at, frame_at}
use Rattle.spu_judge.proofs.Adding.{AreFrames, frame_low, frames_start, frames_more, frames_whole, no_frame}
use Rattle.spu_judge.proofs.building.frames_of.Goals as goal

pub loop-f-init : goal.loop-f-init
loop-f-init c = subst (λ (xs : List ℕ). AreFrames xs 0 (frame_at c.args.depths.now)) (sym c.new-frames.ensures) (frames_start (frame_at c.args.depths.now))

pub loop-f-preserved : goal.loop-f-preserved
loop-f-preserved c =
    let count = c.pointer_node-f-end.ensures in
    let low = frame_low c.args.p.now (depth_at c.args.depths.now) (frame_at c.args.depths.now) c.requires.depths c.loop-f.f (omega (arith, count)) in
    subst (λ (xs : List ℕ). AreFrames xs (c.loop-f.f + 1) (frame_at c.args.depths.now)) (sym c.in_ok-push.ensures.ok)
    (frames_more _ c.loop-f.f c.frame.result (frame_at c.args.depths.now) c.loop-f.invariant c.frame.ensures (subst (λ n. n ≤ MAX_STACK_LIMIT) (sym c.frame.ensures) low))

pub returns-clause-each : goal.returns-clause-each
returns-clause-each c = λ f.
    (let count = c.pointer_node-f-end.ensures in
    ap (λ (xs : List ℕ). slice_index xs f) c.in_ok-push-2.ensures.ok
    ∙ frames_whole _ c.loop-f.f (frame_at c.args.depths.now) c.loop-f.invariant (λ g le. no_frame c.args.depths.now _ g c.requires.count (omega (arith, count, le))) f)
