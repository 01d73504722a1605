use Rattle.std.proofs.Common.{◌≡◌, ◌-◌, ◌++◌, ap, ◌∙◌, arith}
use Rattle.spu_word.specs.declared.limits.TheConstants.{DATA_START}
use Rattle.spu_layout.specs.declared.layout.Span.{Span}
use Rattle.spu_layout.specs.Placing.{table_start}
use Rattle.spu_layout.specs.Views.{layout_in}
use Rattle.spu_image.specs.Overlays.{table}
use Rattle.spu_image.specs.OverlayFilling.{constants, offset_of}
use Rattle.spu_image.proofs.Overlaying.{buffer_size, buffers_from, code_to, ends, has_stubs, laid_out, loader_is, loader_room, room, slots_inside, slots_to, starts}
use Rattle.spu_image.proofs.Tails.{loader_stands, tail_added}
use Rattle.spu_image.proofs.overlays.put_tail.Goals as goal

pub of-at-requires-clause-inside : goal.of-at-requires-clause-inside
of-at-requires-clause-inside c = slots_inside c.args.p.now c.args.plan.now c.args.layout.now c.requires.overlaid

pub put_stubs-requires-clause-laid : goal.put_stubs-requires-clause-laid
put_stubs-requires-clause-laid c = laid_out c.args.p.now c.args.plan.now c.args.layout.now c.requires.overlaid

pub put_stubs-requires-clause-stubs : goal.put_stubs-requires-clause-stubs
put_stubs-requires-clause-stubs c =
    has_stubs c.args.p.now c.args.plan.now c.args.layout.now c.requires.overlaid c.of-at.result.loader
    (loader_is c.args.p.now c.args.plan.now c.args.layout.now c.requires.overlaid c.of-at.result.loader c.of-at.ensures.loader)

pub loader_words-words-requires-clause-places : goal.loader_words-words-requires-clause-places
loader_words-words-requires-clause-places c =
    let own = loader_room c.args.p.now c.args.plan.now c.args.layout.now c.requires.overlaid c.of-at.result.loader
    (loader_is c.args.p.now c.args.plan.now c.args.layout.now c.requires.overlaid c.of-at.result.loader c.of-at.ensures.loader) in
    let from = buffers_from c.args.p.now c.args.plan.now c.args.layout.now c.requires.overlaid in
    let to = slots_to c.args.p.now c.args.plan.now c.args.layout.now c.requires.overlaid in
    let low = starts c.args.p.now c.args.plan.now c.args.layout.now c.requires.overlaid in
    let end = room c.args.p.now c.args.plan.now c.args.layout.now c.requires.overlaid in
    let buffers = c.of-at.ensures.buffers in
    let table = c.of-at.ensures.table in
    (own, omega (arith, buffers, from, low), omega (arith, buffers, from, end), omega (arith, table, to, low, end))

pub loader_words-words-requires-clause-size : goal.loader_words-words-requires-clause-size
loader_words-words-requires-clause-size c = buffer_size c.args.p.now c.args.plan.now c.args.layout.now c.requires.overlaid

pub put_table-requires-clause-load : goal.put_table-requires-clause-load
put_table-requires-clause-load c =
    let is = ap (λ (s : Span). s.to) c.areas-load_size.ensures.code in
    let to = code_to c.args.p.now c.args.plan.now c.args.layout.now c.requires.overlaid in
    let low = starts c.args.p.now c.args.plan.now c.args.layout.now c.requires.overlaid in
    let end = room c.args.p.now c.args.plan.now c.args.layout.now c.requires.overlaid in
    omega (arith, is, to, low, end)

pub put_table-requires-clause-end : goal.put_table-requires-clause-end
put_table-requires-clause-end c =
    let from = buffers_from c.args.p.now c.args.plan.now c.args.layout.now c.requires.overlaid in
    let end = ends c.args.p.now c.args.plan.now c.args.layout.now c.requires.overlaid in
    let buffers = c.of-at.ensures.buffers in
    omega (arith, from, end, buffers)

pub returns : goal.returns
returns c =
    let p = c.args.p.now in
    let plan = c.args.plan.now in
    let layout = c.args.layout.now in
    let out = c.requires.overlaid in
    let size = buffer_size p plan layout out in
    let base = loader_is p plan layout out c.of-at.result.loader c.of-at.ensures.loader in
    let to = slots_to p plan layout out in
    let table_is = c.of-at.ensures.table in
    let place : c.of-at.result.table ≡ table_start p plan = omega (arith, table_is, to) in
    tail_added p plan (layout_in layout) (offset_of ((layout_in layout).code_area.to - DATA_START) c.args.regions.now) size.0 size.2 c.of-at.result.loader base
    c.args.out.now c.put_stubs.new.out c.in_ok-put_stubs.ensures c.loader_words-words.result
    (loader_stands p plan size.0 c.of-at.result.loader c.of-at.result.buffers c.of-at.result.table c.loader_words-words.result base (c.of-at.ensures.buffers ∙ buffers_from p plan layout out) place
    (c.loader_words-words.ensures size.0 size.2))
    c.put_words.new.out c.put_words-2.new.out c.put_constants.new.out c.put_table.new.out c.in_ok-put_words.ensures c.in_ok-put_words-2.ensures
    (c.in_ok-put_constants.ensures ∙ ap (λ r. c.put_words-2.new.out ++ constants plan.buffers r) c.return_entry.ensures)
    (c.in_ok-put_table.ensures ∙ ap (λ (s : Span). c.put_constants.new.out ++ table p plan (offset_of (s.to - DATA_START) c.args.regions.now)) c.areas-load_size.ensures.code)
