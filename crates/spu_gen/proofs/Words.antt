-- The words of lines, written one after another.
use Rattle.std.proofs.Common.{◌≡◌, ℕ, ◌+◌, ◌<◌, List, [], ◌∷◌, ◌++◌, length, take, get_or, Some, refl, sym, subst, ap, ap₂, ◌∙◌}
use Rattle.std.proofs.lemmas.Grind.{flat_map-append}
use Rattle.std.proofs.lemmas.List.{map-append, take_more}
use Rattle.spu_word.specs.Bytes.{be_digits}
use Rattle.spu_isa.specs.declared.instruction.Inst.{Inst}
use Rattle.spu_isa.specs.Decoding.{decoded}
use Rattle.spu_isa.specs.Table.{Decodes}
use Rattle.spu_isa.proofs.Decoded.{decodes_decoded}
use Rattle.spu_gen.specs.declared.lines.Line.{Line}
use Rattle.spu_gen.specs.Workloads.{AreWords, bare}

pub no_words : (lines : List Line) → AreWords (take 0 lines) []
no_words lines = record { words = []; code = refl; digits = refl }

-- one line more has one word more
pub words_more : (lines : List Line) (k : ℕ) (d : Line) (x : Inst) (w : ℕ) (bytes more new : List ℕ) → k < length lines → x ≡ bare (get_or lines k d) → Decodes w x
    → more ≡ be_digits w → new ≡ bytes ++ more → AreWords (take k lines) bytes → AreWords (take (k + 1) lines) new
words_more lines k d x w bytes more new lt is decodes same grown before =
    let line = get_or lines k d in
    subst (λ xs. AreWords xs new) (sym (take_more lines k d lt))
    (record {
      words = before.words ++ w ∷ [];
      code =
          map-append decoded before.words (w ∷ [])
          ∙ ap₂ (λ xs y. xs ++ y ∷ []) before.code (decodes_decoded w x decodes ∙ ap Some is)
          ∙ sym (map-append (λ y. Some (bare y)) (take k lines) (line ∷ []));
      digits = grown ∙ ap₂ (λ xs ys. xs ++ ys) before.digits same ∙ sym (flat_map-append be_digits before.words (w ∷ []));
    })
