use Rattle.std.proofs.Common.{ℕ, List, ◌≡◌, ◌<◌, length, get_or, sym, ap, ◌∙◌, arith}
use Rattle.std.specs.Prelude.{slice_get}
use Rattle.std.proofs.lemmas.Option.{slice_get-get_or}
use Rattle.spu_lift.specs.declared.program.Prog.{Prog}
use Rattle.spu_lift.specs.WellFormed.{IsWellFormed}
use Rattle.spu_frame.proofs.Formed.{contains_at}
use Rattle.spu_judge.proofs.building.add_taken.Goals as goal

taken_small : (p : Prog) → IsWellFormed p → (taken : List ℕ) (i d : ℕ) → taken ≡ p.taken → i < length taken → get_or taken i d < length p.functions
taken_small p formed taken i d e lt =
    (formed.taken (get_or taken i d) (contains_at p.taken i (get_or taken i d) (ap (λ (xs : List ℕ). slice_get xs i) (sym e) ∙ slice_get-get_or taken i d lt))).1

pub add_edge-requires-clause-to : goal.add_edge-requires-clause-to
add_edge-requires-clause-to c =
    let small = taken_small c.args.p.now c.requires.formed c.as_slice-taken.result.now c.loop-g.g-index 0 c.as_slice-taken.ensures (omega arith) in
    let nodes = c.requires.nodes in
    let same = ap (λ (xs : List ℕ). length xs) c.loop-g.invariant.same in
    omega (arith, small, nodes, same)
