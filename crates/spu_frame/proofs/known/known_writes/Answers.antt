use Rattle.std.proofs.Common.{◌≡◌, ℕ, List, Option, None, replicate, sym, subst, arith, rules}
use Rattle.spu_word.specs.declared.limits.TheConstants.{REGISTER_COUNT}
use Rattle.spu_frame.specs.Surveys.{IsScan}
use Rattle.spu_frame.proofs.Formed.{rt_small}
use Rattle.spu_frame.proofs.Scans.{scan_starts, scan_next, known_starts, known_more}
use Rattle.spu_frame.proofs.known.known_writes.Goals as goal

pub loop-i-init : goal.loop-i-init
loop-i-init c =
    let none : c.in_ok-writers.writers.items ≡ replicate REGISTER_COUNT None = c.in_ok-writers.ensures.items_if_clones_equal (λ y h. search rules) in
    record {
      scan = subst (λ (ws : List (Option ℕ)). IsScan c.args.p.now c.args.f ws 0 0) (sym none) (scan_starts c.args.p.now c.args.f);
      known = known_starts c.args.p.now c.args.f _ c.new-known.ensures.items;
    }

pub note-requires : goal.note-requires
note-requires c =
    let lt = rt_small c.args.p.now c.requires.formed c.args.f c.loop-i.i c.instruction-x.result.now c.instruction-x.ensures in
    let count = c.loop-i.invariant.scan.count in
    omega (arith, lt, count)

pub loop-i-preserved : goal.loop-i-preserved
loop-i-preserved c =
    let x = c.instruction-x.result.now in
    let lt = rt_small c.args.p.now c.requires.formed c.args.f c.loop-i.i x c.instruction-x.ensures in
    let count = c.loop-i.invariant.scan.count in
    record {
      scan = scan_next c.args.p.now c.requires.formed c.args.f c.loop-i.i c.in_ok-targets.targets.items c.in_ok-targets.ensures x c.instruction-x.ensures c.loop-i.writers.items c.loop-i.straight c.loop-i.invariant.scan
          _ _ (omega (arith, lt, count)) c.note.ensures c.straight_behind-straight.ensures;
      known = known_more c.args.p.now c.args.f c.loop-i.i c.loop-i.known.items _ c.known_at.result c.loop-i.invariant.known c.in_ok-push.ensures.items c.known_at.ensures.some c.known_at.ensures.none;
    }
