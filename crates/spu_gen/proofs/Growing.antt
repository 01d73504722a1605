-- A workload grows by one function.
use Rattle.std.proofs.Common.{◌≡◌, ℕ, zero, suc, ◌+◌, ◌⊎◌, List, [], ◌∷◌, ◌++◌, length, Some, None, inl, inr, refl, sym, subst, ap, ap₂, ◌∙◌, arith}
use Rattle.std.specs.Prelude.{slice_get}
use Rattle.std.specs.List.{flat_map, range_with_len}
use Rattle.std.proofs.lemmas.Grind.{flat_map-append}
use Rattle.std.proofs.lemmas.List.{append-nil, length-append}
use Rattle.std.proofs.lemmas.List.FromFn.{map-range_with_len_more}
use Rattle.spu_elf.specs.declared.objects.Object.{Object}
use Rattle.spu_elf.specs.declared.objects.Section.{Section}
use Rattle.spu_gen.specs.declared.lines.Line.{Line}
use Rattle.spu_gen.specs.Workloads.{HasFunctions, IsSectionOf, draw, lines_of, next, relocations, symbol_of}

none_some : {A : Type 0} (a : A) → None ≡ Some a → ⊥
none_some a e = cc

-- an element of a list with one more is one of the list, or the new one
last_or_before : {A : Type 0} (xs : List A) (x y : A) (k : ℕ) → slice_get (xs ++ x ∷ []) k ≡ Some y → (slice_get xs k ≡ Some y) ⊎ ((k ≡ length xs) × (x ≡ y))
last_or_before [] x y zero e = let same : x ≡ y = cc in inr (refl, same)
last_or_before [] x y (suc k) e = absurd (none_some y e)
last_or_before (z ∷ xs) x y zero e = inl e
last_or_before (z ∷ xs) x y (suc k) e = elim (last_or_before xs x y k e) [
  | inl before ↦ inl before
  | inr last ↦ inr (ap suc last.0, last.1)
]

range_more : (a n : ℕ) → range_with_len a (suc n) ≡ range_with_len a n ++ (a + n) ∷ []
range_more a zero = ap (λ k. k ∷ []) (let e : a ≡ a + 0 = omega arith in e)
range_more a (suc n) = ap (λ ks. a ∷ ks) (range_more (a + 1) n ∙ ap (λ k. range_with_len (a + 1) n ++ k ∷ []) (let e : a + 1 + n ≡ a + suc n = omega arith in e))

pub no_functions : (seed count : ℕ) → HasFunctions seed count 0 (record { sections = []; symbols = []; relocs = [] })
no_functions seed count = record { size = refl; sections = λ i t e. absurd (none_some t e); symbols = refl; relocs = refl }

pub functions_more : (seed count n : ℕ) (lines : List Line) (old new : Object) → HasFunctions seed count n old → lines ≡ lines_of seed count n
    → (t : Section) × (new.sections ≡ old.sections ++ t ∷ []) × IsSectionOf n lines t → new.symbols ≡ old.symbols ++ symbol_of n lines ∷ []
    → new.relocs ≡ old.relocs ++ relocations n 0 lines → HasFunctions seed count (n + 1) new
functions_more seed count n lines old new before is section symbols relocs =
    let next : range_with_len 0 (n + 1) ≡ range_with_len 0 n ++ n ∷ [] = ap (range_with_len 0) (let e : n + 1 ≡ suc n = omega arith in e) ∙ range_more 0 n ∙ ap (λ k. range_with_len 0 n ++ k ∷ []) (let e : 0 + n ≡ n = omega arith in e) in
    let last : IsSectionOf n (lines_of seed count n) section.0 = subst (λ xs. IsSectionOf n xs section.0) is section.2 in
    record {
      size = ap length section.1 ∙ length-append old.sections (section.0 ∷ []) ∙ ap (λ k. k + 1) before.size;
      sections = λ i t e. elim (last_or_before old.sections section.0 t i (subst (λ ts. slice_get ts i ≡ Some t) section.1 e)) [
        | inl there ↦ before.sections i t there
        | inr new_one ↦
            let at : n ≡ i = sym (new_one.0 ∙ before.size) in
            subst (IsSectionOf i (lines_of seed count i)) new_one.1 (subst (λ k. IsSectionOf k (lines_of seed count k) section.0) at last)
      ];
      symbols =
          symbols ∙ ap₂ (λ xs ys. xs ++ symbol_of n ys ∷ []) before.symbols is
          ∙ sym (map-range_with_len_more (λ i. symbol_of i (lines_of seed count i)) 0 n n (let e : 0 + n ≡ n = omega arith in e));
      relocs =
          relocs ∙ ap₂ (λ xs ys. xs ++ relocations n 0 ys) before.relocs is
          ∙ ap (λ rs. flat_map (λ i. relocations i 0 (lines_of seed count i)) (range_with_len 0 n) ++ rs) (sym (append-nil (relocations n 0 (lines_of seed count n))))
          ∙ sym (flat_map-append (λ i. relocations i 0 (lines_of seed count i)) (range_with_len 0 n) (n ∷ []))
          ∙ ap (flat_map (λ i. relocations i 0 (lines_of seed count i))) (sym next);
    }

-- the number of the next function
pub draw_more : (seed n : ℕ) → draw seed (n + 1) ≡ next (draw seed n)
draw_more seed n = ap (draw seed) (let e : n + 1 ≡ suc n = omega arith in e)
