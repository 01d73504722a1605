use Rattle.std.proofs.Common.{◌≡◌, ℕ, ◌+◌, ◌<◌, ◌≤◌, Bool, true, false, List, [], ◌∷◌, ◌++◌, sym, subst, ◌∙◌, arith, rules}
use Rattle.spu_lift.specs.TakenPlaces.{takes}
use Rattle.spu_lift.proofs.RisingTaken.{ArePassing, one_passing, passing_contained, skipped_passing}
use Rattle.spu_lift.proofs.taken.Taken.words.Goals as goal
use Rattle.spu_lift.proofs.taken.Taken.words.Goals.{then-contains+in_ok-push, else-contains}

pub loop-word-preserved : goal.loop-word-preserved
loop-word-preserved c =
    let such : ℕ → Bool = λ w. takes c.args.self.now (record { function = c.args.function; word = w }) in
    let P : List ℕ → Type 0 = λ xs. ArePassing such (c.loop-word.word + 1) xs in
    let some : 1 ≤ c.loop-word.word = omega arith in
    record {
      passing = elim c.if-contains.branch [
        | then-contains+in_ok-push w ↦
            let e : c.if-contains.words ≡ c.loop-word.words ++ c.loop-word.word ∷ [] = first_of (cc, search rules) in
            subst P (sym e) (one_passing such c.loop-word.word c.loop-word.words some (sym c.contains.ensures ∙ w.if-contains.true) c.loop-word.invariant.passing)
        | else-contains w ↦ subst P (sym w.words-is) (skipped_passing such c.loop-word.word c.loop-word.words (sym c.contains.ensures ∙ w.if-contains.false) c.loop-word.invariant.passing)
      ];
      low = omega arith;
    }

pub returns-clause-these : goal.returns-clause-these
returns-clause-these c = λ m.
    let h = passing_contained (λ w. takes c.args.self.now (record { function = c.args.function; word = w })) c.loop-word.word c.loop-word.words c.loop-word.invariant.passing m in
    let past : c.args.count ≤ c.loop-word.word = omega arith in
    (λ has. let is = h.0 has in let from = is.0 in let less = is.1 in (from, omega arith, is.2), λ is. let less = is.1 in h.1 (is.0, omega arith, is.2))
