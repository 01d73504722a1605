-- What a function needs that paths from the entry reach is at most what the entry needs.
use Rattle.std.proofs.Common.{◌≡◌, ℕ, ◌+◌, ◌^◌, ◌<◌, ◌≤◌, List, [], ◌∷◌, ◌++◌, Option, Some, None, refl, arith}
use Rattle.std.specs.Prelude.{IfSome}
use Rattle.spu_word.specs.declared.limits.TheConstants.{MAX_STACK_LIMIT}
use Rattle.spu_lift.specs.declared.program.Prog.{Prog}
use Rattle.spu_graph.specs.declared.graph.Edge.{Edge}
use Rattle.spu_graph.specs.Paths.{edges_weight}
use Rattle.spu_graph.specs.Known.{AreNeeds, need_of}
use Rattle.spu_graph.proofs.Cycles.{path_on}
use Rattle.spu_judge.specs.declared.outcome.Judged.{Judged}
use Rattle.spu_judge.specs.Answers.{IsJudgement}

weight_on : (frame : ℕ → ℕ) (ys xs : List Edge) → edges_weight frame (ys ++ xs) ≡ edges_weight frame ys + edges_weight frame xs
unfolding edges_weight
weight_on frame [] xs = omega arith
weight_on frame (y ∷ ys) xs = let rest = weight_on frame ys xs in omega (arith, rest)

pub need_low : (E : Edge → Type 0) (frame : ℕ → ℕ) (entry : ℕ) (need_from : ℕ → Option ℕ) → AreNeeds E frame entry need_from → (need : ℕ) → need_from entry ≡ Some need → (f v : ℕ) → need_from f ≡ Some v → v ≤ need
need_low E frame entry need_from are need e f v is =
    let path = are.some f v is in
    let own = are.need f v is in
    let all = are.need entry need e in
    let most = all.most own.last (own.edges ++ path.0) (path_on E entry f own.last path.0 own.edges path.1 own.path) in
    let w = weight_on frame own.edges path.0 in
    let r = own.reached in
    omega (arith, most, w, r)

pub told_small : (p : Prog) (limit : ℕ) (j : Judged) → IsJudgement p limit j → limit ≤ MAX_STACK_LIMIT → (f v : ℕ) → need_of j.needs f ≡ Some v → v < 2 ^ 32
told_small p limit j is low f v e =
    let few = need_low _ _ p.entry (need_of j.needs) is.needs is.need is.entry f v e in
    let least = is.least in
    omega (arith, few, least, low)

pub if_small : (o : Option ℕ) → ((v : ℕ) → o ≡ Some v → v < 2 ^ 32) → IfSome o (λ need. need < 2 ^ 32)
if_small None h = tt
if_small (Some v) h = h v refl
