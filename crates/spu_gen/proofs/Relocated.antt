-- The relocations of lines, one after another.
use Rattle.std.proofs.Common.{◌≡◌, ℕ, ◌+◌, ◌*◌, ◌<◌, List, [], ◌∷◌, ◌++◌, length, take, get_or, sym, ap, ap₂, ◌∙◌, arith, append_assoc}
use Rattle.std.proofs.lemmas.List.{append-nil, length-take-le, take_more}
use Rattle.spu_word.specs.declared.limits.TheConstants.{WORD_SIZE}
use Rattle.spu_elf.specs.declared.objects.Reloc.{Reloc}
use Rattle.spu_gen.specs.declared.lines.Line.{Line}
use Rattle.spu_gen.specs.Workloads.{relocation_of, relocations}

-- those of one line more
relocations_last : (i offset : ℕ) (xs : List Line) (x : Line) → relocations i offset (xs ++ x ∷ []) ≡ relocations i offset xs ++ relocation_of i (offset + WORD_SIZE * length xs) x
relocations_last i offset [] x = append-nil (relocation_of i offset x) ∙ ap (λ n. relocation_of i n x) (let e : offset ≡ offset + WORD_SIZE * 0 = omega arith in e)
relocations_last i offset (y ∷ ys) x =
    let e : (offset + WORD_SIZE) + WORD_SIZE * length ys ≡ offset + WORD_SIZE * length (y ∷ ys) = omega arith in
    ap (λ rs. relocation_of i offset y ++ rs) (relocations_last i (offset + WORD_SIZE) ys x)
    ∙ sym (append_assoc (relocation_of i offset y) (relocations i (offset + WORD_SIZE) ys) (relocation_of i ((offset + WORD_SIZE) + WORD_SIZE * length ys) x))
    ∙ ap (λ n. (relocation_of i offset y ++ relocations i (offset + WORD_SIZE) ys) ++ relocation_of i n x) e

pub relocations_more : (i : ℕ) (lines : List Line) (k : ℕ) (d : Line) (old before more new : List Reloc) → k < length lines → more ≡ relocation_of i (WORD_SIZE * k) (get_or lines k d)
    → new ≡ before ++ more → before ≡ old ++ relocations i 0 (take k lines) → new ≡ old ++ relocations i 0 (take (k + 1) lines)
relocations_more i lines k d old before more new lt is grown e =
    let line = get_or lines k d in
    let long : length (take k lines) ≡ k = length-take-le k lines (omega (arith, lt)) in
    let place : 0 + WORD_SIZE * length (take k lines) ≡ WORD_SIZE * k = omega (arith, long) in
    grown
    ∙ ap₂ (λ xs ys. xs ++ ys) e is
    ∙ append_assoc old (relocations i 0 (take k lines)) (relocation_of i (WORD_SIZE * k) line)
    ∙ ap (λ rs. old ++ rs)
    (ap (λ n. relocations i 0 (take k lines) ++ relocation_of i n line) (sym place)
    ∙ sym (relocations_last i 0 (take k lines) line)
    ∙ ap (relocations i 0) (sym (take_more lines k d lt)))
