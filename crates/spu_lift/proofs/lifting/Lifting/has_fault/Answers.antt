use Rattle.spu_lift.proofs.lifting.Lifting.has_fault.Goals as goal

pub returns-in-Unfit : goal.returns-in-Unfit
returns-in-Unfit c = λ t there. rw c.in-Unfit.is (c.is_unfit.ensures t there)
