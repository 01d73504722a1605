use Rattle.std.proofs.Common.{◌≡◌, ℕ, ◌+◌, ◌<◌, ◌≤◌, Bool, true, false, List, [], ◌∷◌, ◌++◌, sym, subst, ◌∙◌, arith, rules}
use Rattle.spu_lift.specs.TakenPlaces.{takes}
use Rattle.spu_lift.proofs.RisingTaken.{ArePassing, one_passing, passing_contained, skipped_passing}
use Rattle.spu_lift.proofs.taken.Taken.functions.Goals as goal
use Rattle.spu_lift.proofs.taken.Taken.functions.Goals.{then-contains+in_ok-push, else-contains}

pub loop-function-preserved : goal.loop-function-preserved
loop-function-preserved c =
    let such : ℕ → Bool = λ f. takes c.args.self.now (record { function = f; word = 0 }) in
    let P : List ℕ → Type 0 = λ xs. ArePassing such (c.loop-function.function + 1) xs in
    let some : 1 ≤ c.loop-function.function = omega arith in
    elim c.if-contains.branch [
      | then-contains+in_ok-push w ↦
          let e : c.if-contains.functions ≡ c.loop-function.functions ++ c.loop-function.function ∷ [] = first_of (cc, search rules) in
          subst P (sym e) (one_passing such c.loop-function.function c.loop-function.functions some (sym c.contains.ensures ∙ w.if-contains.true) c.loop-function.invariant)
      | else-contains w ↦ subst P (sym w.functions-is) (skipped_passing such c.loop-function.function c.loop-function.functions (sym c.contains.ensures ∙ w.if-contains.false) c.loop-function.invariant)
    ]

pub returns-clause-these : goal.returns-clause-these
returns-clause-these c = λ m.
    let h = passing_contained (λ f. takes c.args.self.now (record { function = f; word = 0 })) c.loop-function.function c.loop-function.functions c.loop-function.invariant m in
    let past : c.args.count + 1 ≤ c.loop-function.function = omega arith in
    (λ has. let is = h.0 has in let less = is.1 in (is.0, omega arith, is.2), λ is. let less = is.1 in h.1 (is.0, omega arith, is.2))
