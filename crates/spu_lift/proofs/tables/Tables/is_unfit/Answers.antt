use Rattle.std.proofs.Common.{arith, sym, ◌∙◌}
use Rattle.std.proofs.lemmas.Bool.{false≢true}
use Rattle.std.proofs.lemmas.Bool.Decides.{nat_tests}
use Rattle.spu_lift.proofs.RelocFits.{unfit_if}
use Rattle.spu_lift.proofs.tables.Tables.is_unfit.Goals as goal
use Rattle.spu_lift.proofs.tables.Tables.is_unfit.Goals.{then-r-ne0, else-r-ne0}

pub returns-else-is_second : goal.returns-else-is_second
returns-else-is_second c = λ t there. elim c.if-r-ne0.branch [
  | then-r-ne0 w ↦ let odd = w.if-r-ne0.true in let test = sym c.if-is_second.false ∙ w.value-is in absurd (grind (arith, nat_tests, test))
  | else-r-ne0 w ↦
      unfit_if c.args.self.now.objects.now c.args.object c.args.index c.args.r.now t c.may_stand.result (omega arith)
      (λ second. absurd (false≢true (sym c.if-is_second.false ∙ w.value-is ∙ w.is_second.ensures.1 second))) (c.may_stand.ensures t there)
]
