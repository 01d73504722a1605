-- The sample program can be linked once it is judged.
use Rattle.std.proofs.Common.{◌≡◌, ℕ, ◌*◌, ◌≤◌, length, sym, ◌∙◌, subst, lit≤}
use Rattle.spu_word.specs.declared.limits.TheConstants.{MAX_OBJECTS, MAX_SYMBOLS}
use Rattle.spu_lift.specs.declared.program.Prog.{Prog}
use Rattle.spu_lift.specs.WellFormed.{IsWellFormed}
use Rattle.spu_judge.specs.declared.outcome.Judged.{Judged}
use Rattle.spu_judge.specs.Answers.{IsJudgement}
use Rattle.spu_ideal.specs.Samples.{tours}
use Rattle.spu_ideal.proofs.TourJudged.{tour_judged}

pub tour_formed : (p : Prog) → p ≡ tours → IsWellFormed p
tour_formed p e = subst IsWellFormed (sym e) tour_judged.formed

pub judgement_of : (p : Prog) (limit : ℕ) (j : Judged) → IsJudgement p limit j → IsJudgement j.prog limit j
judgement_of p limit j is = subst (λ q. IsJudgement q limit j) (sym is.program) is

pub few_globals : (p : Prog) (limit : ℕ) (j : Judged) → p ≡ tours → IsJudgement p limit j → length j.prog.globals ≤ MAX_OBJECTS * MAX_SYMBOLS
few_globals p limit j e is = subst (λ (q : Prog). length q.globals ≤ MAX_OBJECTS * MAX_SYMBOLS) (sym (is.program ∙ e)) (lit≤ tt)
