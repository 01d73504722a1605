use Rattle.std.proofs.Common.{List, length, inl, inr, ap, arith}
use Rattle.spu_lift.specs.declared.program.SymInst.{SymInst}
use Rattle.spu_frame.specs.Faults.{LeavesRange}
use Rattle.spu_frame.proofs.Findings.{before_out, after_out, range_in, depth_within_code}
use Rattle.spu_frame.proofs.survey.out_of_range.Goals as goal

pub returns-then-leaves_range-clause-first : goal.returns-then-leaves_range-clause-first
returns-then-leaves_range-clause-first c =
    let p = c.args.p.now in
    let f = c.args.f in
    let met = c.args.met.now in
    let known = c.args.known.now in
    let r = c.requires in
    let whole = ap (λ (cs : List SymInst). length cs) c.code_of-i-end.ensures in
    let flaw : LeavesRange p f c.loop-i.i = (elim (c.leaves_range.ensures.yes c.if-leaves_range.true) [
      | inl out ↦ before_out p f met r.met r.single r.formed r.f known r.known c.loop-i.i (omega (arith, whole)) out
      | inr out ↦ after_out p f met r.met r.single r.formed r.f known r.known c.loop-i.i (omega (arith, whole)) out
    ]) in
    (flaw, λ j lt bad. (let in_range = c.loop-i.invariant j lt in bad.2 (range_in p f met r.met r.single r.formed r.f known r.known j bad.0 in_range.0 in_range.1 bad.1)))

pub returns-clause-first : goal.returns-clause-first
returns-clause-first c = λ j bad.
    (let r = c.requires in
    let whole = ap (λ (cs : List SymInst). length cs) c.code_of-i-end.ensures in
    let lt = depth_within_code c.args.p.now c.args.f c.args.met.now r.met r.single r.formed r.f c.args.known.now r.known j bad.0 bad.1 in
    let in_range = c.loop-i.invariant j (omega (arith, lt, whole)) in
    bad.2 (range_in c.args.p.now c.args.f c.args.met.now r.met r.single r.formed r.f c.args.known.now r.known j bad.0 in_range.0 in_range.1 bad.1))

pub returns-clause-range : goal.returns-clause-range
returns-clause-range c = λ i n depth.
    (let r = c.requires in
    let whole = ap (λ (cs : List SymInst). length cs) c.code_of-i-end.ensures in
    let lt = depth_within_code c.args.p.now c.args.f c.args.met.now r.met r.single r.formed r.f c.args.known.now r.known i n depth in
    let in_range = c.loop-i.invariant i (omega (arith, lt, whole)) in
    range_in c.args.p.now c.args.f c.args.met.now r.met r.single r.formed r.f c.args.known.now r.known i n in_range.0 in_range.1 depth)
