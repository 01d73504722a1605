-- Ranks that fall along edges show that no path is recursive.
use Rattle.std.proofs.Common.{ℕ, zero, suc, ◌<◌, List, [], ◌∷◌, length, get_or, ap, arith}
use Rattle.std.specs.Prelude.{map}
use Rattle.std.proofs.lemmas.List.{length-map}
use Rattle.spu_graph.specs.Paths.{Edge, IsPath, functions_on, IsRecursive}

ranks_rise : (E : Edge → Type 0) (rank : ℕ → ℕ) → ((x : Edge) → E x → rank x.to < rank x.from)
    → (e g : ℕ) (xs : List Edge) → IsPath E e g xs → (j : ℕ) → j < length xs → rank g < rank (get_or (map (λ x. x.from) xs) j 0)
unfolding IsPath
ranks_rise E rank h e g [] path j lt = absurd (omega arith)
ranks_rise E rank h e g (x ∷ xs) (edge, to, path) zero lt = let here = h x edge in let same = ap rank to in omega (arith, here, same)
ranks_rise E rank h e g (x ∷ xs) (edge, to, path) (suc j) lt =
    let here = h x edge in let same = ap rank to in
    let rest = ranks_rise E rank h e x.from xs path j (omega arith) in
    omega (arith, here, same, rest)

nodes_rise : (E : Edge → Type 0) (rank : ℕ → ℕ) → ((x : Edge) → E x → rank x.to < rank x.from)
    → (e g : ℕ) (xs : List Edge) → IsPath E e g xs → (i j : ℕ) → i < j → j < length (functions_on g xs) → rank (get_or (functions_on g xs) i 0) < rank (get_or (functions_on g xs) j 0)
unfolding IsPath
nodes_rise E rank h e g [] path i j lt within = absurd (omega arith)
nodes_rise E rank h e g (x ∷ xs) (edge, to, path) zero zero lt within = absurd (omega arith)
nodes_rise E rank h e g (x ∷ xs) (edge, to, path) zero (suc j) lt within = ranks_rise E rank h e g (x ∷ xs) (edge, to, path) j (omega (arith, within, length-map xs (λ x. x.from)))
nodes_rise E rank h e g (x ∷ xs) (edge, to, path) (suc i) zero lt within = absurd (omega arith)
nodes_rise E rank h e g (x ∷ xs) (edge, to, path) (suc i) (suc j) lt within = nodes_rise E rank h e x.from xs path i j (omega arith) (omega arith)

pub never_recursive : (E : Edge → Type 0) (rank : ℕ → ℕ) → ((x : Edge) → E x → rank x.to < rank x.from) → (e : ℕ) → IsRecursive E e → ⊥
never_recursive E rank h e r =
    let rise = nodes_rise E rank h e r.last r.edges r.path r.i r.j r.apart r.within in
    let same = ap rank r.same in
    omega (arith, rise, same)
