use Rattle.std.proofs.Common.{◌≡◌, List, Some, length, below_more, sym, ap, subst, arith}
use Rattle.spu_lift.specs.declared.program.SymInst.{SymInst}
use Rattle.spu_lift.specs.Places.{instruction_at}
use Rattle.spu_frame.proofs.Walks.{same_instruction}
use Rattle.spu_frame.proofs.Formed.{place_within}
use Rattle.spu_frame.specs.Frames.{IsExit}
use Rattle.spu_frame.specs.Surveys.{met_at, IsDeep}
use Rattle.spu_frame.proofs.Tests.{told, denied}
use Rattle.spu_frame.proofs.Findings.{deep_flaw, flaw_deep, level_by}
use Rattle.spu_frame.proofs.survey.deep_exit.Goals as goal
use Rattle.spu_frame.proofs.survey.deep_exit.Goals.{else-is_deep-via-then-is_deep+else-is_exit, else-is_deep-via-else-is_deep}

pub returns-then-is_exit-clause-first : goal.returns-then-is_exit-clause-first
returns-then-is_exit-clause-first c =
    let p = c.args.p.now in
    let f = c.args.f in
    let met = c.args.met.now in
    let x = c.instruction.result.now in
    let deep = subst IsDeep c.met_at.ensures (told c.is_deep.result (IsDeep c.met_at.result) c.if-is_deep.true c.is_deep.ensures) in
    let exit = told c.is_exit.result (IsExit p f x) c.if-is_exit.true c.is_exit.ensures in
    (deep_flaw p f met c.requires.met c.requires.single c.loop-i.i x c.instruction.ensures deep exit, λ j lt bad. c.loop-i.invariant j bad.x lt bad.here (flaw_deep p f met c.requires.met c.requires.single j bad) bad.exit)

pub loop-i-preserved : goal.loop-i-preserved
loop-i-preserved c = λ j x le here deep exit.
    below_more (λ j. (x : SymInst) → instruction_at c.args.p.now c.args.f j ≡ Some x → IsDeep (met_at c.args.met.now j) → IsExit c.args.p.now c.args.f x → ⊥) c.loop-i.i (λ k lt y. c.loop-i.invariant k y lt)
    (λ y there dip leave.
    (elim c.else-is_deep.branch [
      | else-is_deep-via-then-is_deep+else-is_exit w ↦ denied w.is_exit.result (IsExit c.args.p.now c.args.f w.instruction.result.now) w.if-is_exit.false w.is_exit.ensures
          (subst (λ (z : SymInst). IsExit c.args.p.now c.args.f z) (same_instruction _ _ _ there w.instruction.ensures) leave)
      | else-is_deep-via-else-is_deep w ↦ denied c.is_deep.result (IsDeep c.met_at.result) w.if-is_deep.false c.is_deep.ensures (subst IsDeep (sym c.met_at.ensures) dip)
    ])) j le x here deep exit

pub returns-clause-first : goal.returns-clause-first
returns-clause-first c = λ j bad.
    (let whole = ap (λ (cs : List SymInst). length cs) c.code_of-i-end.ensures in
    let lt = place_within c.args.p.now c.args.f j bad.x bad.here in
    c.loop-i.invariant j bad.x (omega (arith, lt, whole)) bad.here (flaw_deep c.args.p.now c.args.f c.args.met.now c.requires.met c.requires.single j bad) bad.exit)

pub returns-clause-level : goal.returns-clause-level
returns-clause-level c = level_by c.args.p.now c.args.f c.args.met.now c.requires.met c.requires.single (λ i x here deep exit.
    (let whole = ap (λ (cs : List SymInst). length cs) c.code_of-i-end.ensures in
    let lt = place_within c.args.p.now c.args.f i x here in
    c.loop-i.invariant i x (omega (arith, lt, whole)) here deep exit))
