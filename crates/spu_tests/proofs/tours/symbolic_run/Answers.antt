use Rattle.std.proofs.Common.{◌≡◌, ◌≤◌, ◌-◌, arith, lit≤, refl, subst, sym}
use Rattle.spu_lift.specs.declared.program.Prog.{Prog}
use Rattle.spu_word.specs.declared.limits.TheConstants.{STACK_TOP}
use Rattle.spu_ideal.proofs.Begun.{judged_loadable, no_steps}
use Rattle.spu_image.proofs.TourLinks.{tour_formed}
use Rattle.spu_tests.proofs.tours.symbolic_run.Goals as goal

pub judge_program-requires-clause-formed : goal.judge_program-requires-clause-formed
judge_program-requires-clause-formed c = tour_formed c.in_ok-prog.prog c.in_ok-prog.ensures

pub load-requires : goal.load-requires
load-requires c =
    judged_loadable c.in_ok-prog.prog 16384 c.in-Ok.j c.in-Ok.ensures.judgement refl (lit≤ tt)
    (subst (λ (q : Prog). q.data_end ≤ STACK_TOP - 16384) (sym c.in_ok-prog.ensures) (lit≤ tt))

pub run-end-requires-clause-count : goal.run-end-requires-clause-count
run-end-requires-clause-count c = let none : c.in-Ok-load.ideal.steps ≡ 0 = no_steps _ _ _ _ c.in-Ok-load.ensures.start.1 in omega (arith, none)
