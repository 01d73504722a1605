use Rattle.std.proofs.Common.{◌≡◌, ◌*◌, ◌++◌, [], ◌∷◌, ℕ, List, replicate, ap, ◌∙◌, append_assoc, arith, ◌-◌, ◌^◌}
use Rattle.spu_word.specs.declared.limits.TheConstants.{MAX_TRANSFER_SIZE, QUAD_SIZE}
use Rattle.spu_image.specs.Images.{bytes_of_words}
use Rattle.spu_image.specs.Overlays.{step_quad}
use Rattle.spu_image.proofs.overlay_parts.put_constants.Goals as goal

joined : (o z r e s : List ℕ) → (((o ++ z) ++ r) ++ e) ++ s ≡ o ++ (z ++ (r ++ (e ++ s)))
joined o z r e s = simp append_assoc

pub returns : goal.returns
returns c =
    let back : List ℕ = bytes_of_words (c.args.return_entry ∷ 0 ∷ 0 ∷ 0 ∷ []) in
    let slots : List ℕ = replicate (QUAD_SIZE * c.args.buffers) 0 in
    let image : List ℕ = replicate QUAD_SIZE 0 in
    let less : c.wrapping_neg-back.result ≡ 2 ^ 32 - MAX_TRANSFER_SIZE = (let is = c.wrapping_neg-back.ensures in let range = c.wrapping_neg-back.type_inv in omega (arith, is, range)) in
    c.in_ok-put_words-2.ensures
    ∙ (ap (λ n. c.extend_zeros-2.new.self ++ bytes_of_words (MAX_TRANSFER_SIZE ∷ n ∷ MAX_TRANSFER_SIZE ∷ 0 ∷ [])) less
    ∙ (ap (λ bs. bs ++ step_quad) (c.in_ok-extend_zeros-2.ensures.ok ∙ ap (λ bs. bs ++ image) (c.in_ok-put_words.ensures ∙ ap (λ bs. bs ++ back) c.in_ok-extend_zeros.ensures.ok))
    ∙ joined c.args.out.now slots back image step_quad))
