use Rattle.std.proofs.Common.{◌++◌, ◌∷◌, [], List, ℕ, ap, ◌∙◌}
use Rattle.std.specs.List.{flat_map}
use Rattle.spu_word.specs.declared.limits.TheConstants.{STACK_TOP}
use Rattle.spu_layout.specs.Views.{layout_in}
use Rattle.spu_image.specs.Images.{bytes_of_words}
use Rattle.spu_image.proofs.Made.{segment_made}
use Rattle.spu_image.proofs.segments.load_segment.Goals as goal

pub returns : goal.returns
returns c =
    segment_made c.args.p.now (layout_in c.args.layout.now) c.args.limit c.in_ok-start.start c.in_ok-start.ensures c.in_ok-sections.sections.items c.in_ok-sections.ensures
    c.put_words.new.out c.put_words-2.new.out c.put_words-3.new.out c.put_sections.new.out
    (c.in_ok-put_words.ensures ∙ ap (λ (b : List ℕ). b ++ bytes_of_words (STACK_TOP ∷ c.args.limit ∷ 0 ∷ 0 ∷ [])) c.in_ok-bytes.ensures)
    (c.in_ok-put_words-2.ensures ∙ ap (λ (ws : List ℕ). c.put_words.new.out ++ bytes_of_words ws) c.as_slice.ensures)
    c.in_ok-put_words-3.ensures
    (c.in_ok-put_sections.ensures ∙ ap (λ (ss : List (List ℕ)). c.put_words-3.new.out ++ flat_map bytes_of_words ss) c.deref.ensures.value)
