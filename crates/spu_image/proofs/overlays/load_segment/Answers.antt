use Rattle.std.proofs.Common.{◌++◌, List, ℕ, ap, ◌∙◌, arith}
use Rattle.spu_word.specs.declared.limits.TheConstants.{DATA_START}
use Rattle.spu_layout.proofs.Flats.{ends_behind}
use Rattle.spu_layout.specs.Views.{layout_in}
use Rattle.spu_image.specs.Images.{bytes_of_words}
use Rattle.spu_image.proofs.Overlaying.{code_to, few_regions, laid_out}
use Rattle.spu_image.proofs.Tails.{root_segment_made}
use Rattle.spu_image.proofs.overlays.load_segment.Goals as goal

pub start_words-requires : goal.start_words-requires
start_words-requires c = laid_out c.args.p.now c.args.plan.now c.args.layout.now c.requires.overlaid

pub data_bytes-requires : goal.data_bytes-requires
data_bytes-requires c = laid_out c.args.p.now c.args.plan.now c.args.layout.now c.requires.overlaid

pub returns : goal.returns
returns c =
    let p = c.args.p.now in
    let plan = c.args.plan.now in
    let layout = c.args.layout.now in
    let out = c.requires.overlaid in
    let well = c.requires.overlaid.well in
    let entry = well.entry.1 in
    root_segment_made p plan (layout_in layout) (few_regions p plan layout out) (omega (arith, entry)) (ends_behind DATA_START p.parts p.data_end well.ordered) (code_to p plan layout out)
    c.args.regions.now c.args.root.now c.requires.root c.args.limit c.in_ok-start.start c.in_ok-start.ensures
    c.in_ok-bytes.bytes c.put_words.new.out c.put_words-2.new.out c.put_words-3.new.out c.extend.new.self c.put_tail.new.out
    c.in_ok-bytes.ensures c.in_ok-put_words.ensures (c.in_ok-put_words-2.ensures ∙ ap (λ (ws : List ℕ). c.put_words.new.out ++ bytes_of_words ws) c.as_slice.ensures) c.in_ok-put_words-3.ensures c.in_ok-extend.ensures.ok
    c.in_ok-put_tail.ensures
