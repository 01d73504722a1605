use Rattle.std.proofs.Common.{◌+◌, refl, sym, subst, arith}
use Rattle.spu_plan.specs.Choices.{overlay_end}
use Rattle.spu_plan.proofs.Choosing.{LowestOf, none_lowest, is_greatest, is_least, lowest_skips, lowest_more}
use Rattle.spu_plan.proofs.making.choose_buffer.Goals as goal
use Rattle.spu_plan.proofs.making.choose_buffer.Goals.{then-buffer-input+else-end-from, else-buffer-input}

pub loop-buffer-init : goal.loop-buffer-init
loop-buffer-init c = none_lowest c.args.input.now c.requires c.overlay_end-least.result c.overlay_end-least.ensures

pub loop-buffer-preserved : goal.loop-buffer-preserved
loop-buffer-preserved c =
    elim c.if-buffer-input.branch [
      | then-buffer-input+else-end-from w ↦
          let least_of = w.min-least.ensures in
          let over = w.if-end-from.false in
          let room = w.from.ensures in
          lowest_more (overlay_end c.args.input.now) c.args.input.now.room c.args.input.now.largest c.loop-buffer.buffer-index c.loop-buffer.least c.loop-buffer.invariant
          _ w.overlay_end-end.result c.loop-buffer-test.true refl w.if-buffer-input.true w.overlay_end-end.ensures c.if-buffer-input.least (omega (arith, w.least-is, least_of)) (omega (arith, over, room))
      | else-buffer-input w ↦
          subst (LowestOf c.args.input.now (c.loop-buffer.buffer-index + 1)) (sym w.least-is)
          (lowest_skips (overlay_end c.args.input.now) c.args.input.now.room c.args.input.now.largest c.loop-buffer.buffer-index c.loop-buffer.least c.loop-buffer.invariant w.if-buffer-input.false)
    ]

pub returns-then-end-from : goal.returns-then-end-from
returns-then-end-from c =
    let fits = c.if-end-from.true in
    let room = c.from.ensures in
    is_greatest c.args.input.now c.loop-buffer.buffer-index c.loop-buffer.least c.loop-buffer.invariant _ c.overlay_end-end.result c.loop-buffer-test.true refl c.if-buffer-input.true c.overlay_end-end.ensures (omega (arith, fits, room))

pub returns : goal.returns
returns c = is_least c.args.input.now c.loop-buffer.least (subst (λ k. LowestOf c.args.input.now k c.loop-buffer.least) (omega arith) c.loop-buffer.invariant)
