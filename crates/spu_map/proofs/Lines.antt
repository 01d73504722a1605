-- Lines of a text, one after another.
use Rattle.std.proofs.Common.{◌≡◌, ℕ, suc, ◌+◌, ◌-◌, ◌<◌, List, ◌++◌, sym, ap, ◌∙◌, arith, append_assoc}
use Rattle.std.specs.List.{flat_map, range_with_len}
use Rattle.std.proofs.lemmas.List.Concat.{flat_map-cons}

pub one_line_more : (line : ℕ → List ℕ) (text new whole : List ℕ) (f n : ℕ) → text ++ flat_map line (range_with_len f (n - f)) ≡ whole → f < n → new ≡ text ++ line f
    → new ++ flat_map line (range_with_len (f + 1) (n - (f + 1))) ≡ whole
one_line_more line text new whole f n all lt is =
    let rest : List ℕ = flat_map line (range_with_len (f + 1) (n - (f + 1))) in
    let more : n - f ≡ suc (n - (f + 1)) = omega (arith, lt) in
    ap (λ (t : List ℕ). t ++ rest) is ∙ append_assoc text (line f) rest
    ∙ ap (λ (t : List ℕ). text ++ t) (sym (flat_map-cons line f (range_with_len (f + 1) (n - (f + 1)))))
    ∙ ap (λ (m : ℕ). text ++ flat_map line (range_with_len f m)) (sym more) ∙ all
