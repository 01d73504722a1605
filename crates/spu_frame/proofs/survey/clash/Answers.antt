use Rattle.std.proofs.Common.{List, length, ap, subst, arith}
use Rattle.spu_lift.specs.declared.program.SymInst.{SymInst}
use Rattle.spu_frame.specs.Surveys.{IsTwice}
use Rattle.spu_frame.proofs.Tests.{told}
use Rattle.spu_frame.proofs.Findings.{twice_flaw, flaw_twice, two_within}
use Rattle.spu_frame.proofs.survey.clash.Goals as goal

pub returns-then-is_twice-clause-first : goal.returns-then-is_twice-clause-first
returns-then-is_twice-clause-first c =
    let p = c.args.p.now in
    let f = c.args.f in
    let met = c.args.met.now in
    let whole = ap (λ (cs : List SymInst). length cs) c.code_of-i-end.ensures in
    let two = subst IsTwice c.met_at.ensures (told c.is_twice.result (IsTwice c.met_at.result) c.if-is_twice.true c.is_twice.ensures) in
    (twice_flaw p f met c.requires.met c.loop-i.i (omega (arith, whole)) two, λ j lt bad. c.loop-i.invariant j lt (flaw_twice p f met c.requires.met j bad))

pub returns-clause-first : goal.returns-clause-first
returns-clause-first c = λ j bad.
    (let whole = ap (λ (cs : List SymInst). length cs) c.code_of-i-end.ensures in
    let lt = two_within c.args.p.now c.args.f c.args.met.now c.requires.met j bad in
    c.loop-i.invariant j (omega (arith, lt, whole)) (flaw_twice c.args.p.now c.args.f c.args.met.now c.requires.met j bad))
