use Rattle.std.proofs.Common.{◌≡◌, ◌+◌, ℕ, List, Option, refl, sym, ◌∙◌, subst, arith}
use Rattle.spu_lift.specs.declared.program.Prog.{Prog}
use Rattle.spu_frame.specs.declared.depths.Flaw.{Flaw}
use Rattle.spu_frame.specs.declared.depths.Depths.{Depths}
use Rattle.spu_frame.specs.declared.survey.FunctionDepths.{FunctionDepths}
use Rattle.spu_frame.specs.declared.survey.Finding.{Finding}
use Rattle.spu_frame.specs.declared.survey.Finding.TheVariants.{Good}
use Rattle.spu_frame.specs.Surveys.{AreDepthsIn, IsFaultIn, IsFinding}
use Rattle.spu_frame.specs.Flaws.{AreFound}
use Rattle.spu_frame.proofs.Formed.{code_small}
use Rattle.spu_frame.proofs.Worst.{found_good, found_faulty, worst_fault, found_depths}
use Rattle.spu_frame.proofs.depths.frames.Goals as goal
use Rattle.spu_frame.proofs.depths.frames.Goals.{in-Good+in_ok-push-in-Good, in-Faulty}

good_finding : (p : Prog) (f : ℕ) (s : Finding) (d : FunctionDepths) → s ≡ Good d → IsFinding p f s → AreDepthsIn p f d
good_finding p f s d e h = subst (IsFinding p f) e h

found_as : (p : Prog) (n : ℕ) (ds old : List FunctionDepths) (worst older : Option Flaw) → ds ≡ old → worst ≡ older → AreFound p n old older → AreFound p n ds worst
found_as p n ds old worst older e is h = subst (λ (xs : List FunctionDepths). AreFound p n xs worst) (sym e) (subst (λ (o : Option Flaw). AreFound p n old o) (sym is) h)

pub overflow_cast-place : goal.overflow_cast-place
overflow_cast-place c =
    let fault : IsFaultIn c.args.p.now c.loop-f.f c.in-Faulty.kind c.in-Faulty.place = subst (IsFinding c.args.p.now c.loop-f.f) c.in-Faulty.is c.in_ok-depths.ensures in
    let within = fault.within in
    let count = c.len-f-end.ensures.value in
    let small = code_small c.args.p.now c.requires c.loop-f.f (omega (arith, count)) in
    omega (arith, within, small)

pub loop-f-preserved : goal.loop-f-preserved
loop-f-preserved c =
    elim c.match-branch-2.branch [
      | in-Good+in_ok-push-in-Good w ↦ found_as c.args.p.now (c.loop-f.f + 1) _ _ _ _ (w.functions-is ∙ w.in_ok-push-in-Good.ensures.ok) w.worst-is
          (found_good c.args.p.now c.loop-f.f c.loop-f.functions c.loop-f.worst w.in-Good.depths c.loop-f.invariant (good_finding c.args.p.now c.loop-f.f c.in_ok-depths.field-0 w.in-Good.depths w.in-Good.is c.in_ok-depths.ensures))
      | in-Faulty w ↦ (
          let flaw : Flaw = record { kind = w.in-Faulty.kind; function = c.loop-f.f; place = w.in-Faulty.place } in
          found_as c.args.p.now (c.loop-f.f + 1) _ _ _ _ w.functions-is (w.worst-is ∙ w.worse-worst.ensures)
          (found_faulty c.args.p.now c.loop-f.f flaw (subst (IsFinding c.args.p.now c.loop-f.f) w.in-Faulty.is c.in_ok-depths.ensures) refl c.loop-f.functions c.loop-f.worst c.loop-f.invariant))
    ]

pub returns-in-Some-clause-refused : goal.returns-in-Some-clause-refused
returns-in-Some-clause-refused c =
    let count = c.len-f-end.ensures.value in
    worst_fault c.args.p.now c.loop-f.f c.in-Some.flaw (omega (arith, count)) (subst (λ (o : Option Flaw). AreFound c.args.p.now c.loop-f.f c.loop-f.functions o) c.in-Some.is c.loop-f.invariant)

pub returns-in-None-clause-depths : goal.returns-in-None-clause-depths
returns-in-None-clause-depths c =
    let count = c.len-f-end.ensures.value in
    let d : Depths = record { functions = c.loop-f.functions } in
    found_depths c.args.p.now c.loop-f.f d (omega (arith, count)) (subst (λ (o : Option Flaw). AreFound c.args.p.now c.loop-f.f c.loop-f.functions o) c.in-None.is c.loop-f.invariant)
