-- Words of instructions that are written one after another.
use Rattle.std.proofs.Common.{◌≡◌, ℕ, ◌+◌, ◌<◌, List, [], ◌∷◌, ◌++◌, length, map, take, get_or, set, sym, ap, ap₂, ◌∙◌, arith, Option, Some, append_assoc}
use Rattle.std.proofs.lemmas.List.{take_more, take_more_set, map-append}
use Rattle.spu_isa.specs.declared.instruction.Inst.{Inst}
use Rattle.spu_isa.specs.Table.{Decodes}
use Rattle.spu_isa.specs.Decoding.{decoded}
use Rattle.spu_isa.proofs.Decoded.{decodes_decoded}

-- one more of them
pub word_written : (words : List ℕ) (code : List Inst) (at i w : ℕ) (d : Inst) (front : List (Option Inst)) → at + i < length words → i < length code → Decodes w (get_or code i d)
    → map decoded (take (at + i) words) ≡ front ++ map Some (take i code) → map decoded (take (at + (i + 1)) (set words (at + i) w)) ≡ front ++ map Some (take (i + 1) code)
word_written words code at i w d front inside few is before =
    let e : at + (i + 1) ≡ at + i + 1 = omega arith in
    ap (λ n. map decoded (take n (set words (at + i) w))) e
    ∙ ap (map decoded) (take_more_set words (at + i) w inside)
    ∙ map-append decoded (take (at + i) words) (w ∷ [])
    ∙ ap₂ (λ xs x. xs ++ x ∷ []) before (decodes_decoded w (get_or code i d) is)
    ∙ append_assoc front (map Some (take i code)) (Some (get_or code i d) ∷ [])
    ∙ ap (λ xs. front ++ xs) (sym (map-append Some (take i code) (get_or code i d ∷ [])) ∙ ap (map Some) (sym (take_more code i d few)))
