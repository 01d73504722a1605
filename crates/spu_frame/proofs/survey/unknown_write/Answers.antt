use Rattle.std.proofs.Common.{◌≡◌, List, Some, length, below_more, ap, subst, arith, ℤ}
use Rattle.spu_lift.specs.declared.program.SymInst.{SymInst}
use Rattle.spu_lift.specs.Places.{instruction_at, stack_pointer, Writes}
use Rattle.spu_frame.proofs.Walks.{same_instruction}
use Rattle.spu_frame.proofs.Formed.{place_within}
use Rattle.spu_frame.specs.Walks.{IsKnownWrite}
use Rattle.spu_frame.proofs.Tests.{told, denied}
use Rattle.spu_frame.proofs.survey.unknown_write.Goals as goal
use Rattle.spu_frame.proofs.survey.unknown_write.Goals.{else-writes-via-then-writes+else-is_unknown, else-writes-via-else-writes}

pub returns-then-is_unknown-clause-first : goal.returns-then-is_unknown-clause-first
returns-then-is_unknown-clause-first c =
    let x = c.instruction.result.now in (
      record {
        function = λ e. omega (arith, e);
        x = x;
        here = c.instruction.ensures;
        writes = told c.writes.result (Writes x stack_pointer) c.if-writes.true c.writes.ensures;
        unknown = λ k w. c.requires.known.none c.loop-i.i k (c.is_unknown.ensures.yes c.if-is_unknown.true) w;
      },
      λ j lt bad. (let k = c.loop-i.invariant j bad.x lt bad.here bad.writes in bad.unknown k.0 k.1),
    )

pub loop-i-preserved : goal.loop-i-preserved
loop-i-preserved c = λ j x le here writes.
    below_more (λ j. (x : SymInst) → instruction_at c.args.p.now c.args.f j ≡ Some x → Writes x stack_pointer → (k : ℤ) × IsKnownWrite c.args.p.now c.args.f j k) c.loop-i.i (λ k lt y. c.loop-i.invariant k y lt)
    (λ y there write.
    (elim c.else-writes.branch [
      | else-writes-via-then-writes+else-is_unknown w ↦ (let k = w.is_unknown.ensures.no w.if-is_unknown.false in (k.0, c.requires.known.some c.loop-i.i k.0 k.1))
      | else-writes-via-else-writes w ↦ absurd (denied c.writes.result (Writes c.instruction.result.now stack_pointer) w.if-writes.false c.writes.ensures
          (subst (λ (z : SymInst). Writes z stack_pointer) (same_instruction _ _ _ there c.instruction.ensures) write))
    ])) j le x here writes

pub returns-clause-first : goal.returns-clause-first
returns-clause-first c = λ j bad.
    (let whole = ap (λ (cs : List SymInst). length cs) c.code_of-i-end.ensures in
    let lt = place_within c.args.p.now c.args.f j bad.x bad.here in
    let k = c.loop-i.invariant j bad.x (omega (arith, lt, whole)) bad.here bad.writes in
    bad.unknown k.0 k.1)

pub returns-clause-writes : goal.returns-clause-writes
returns-clause-writes c = λ i x ne here writes.
    (let whole = ap (λ (cs : List SymInst). length cs) c.code_of-i-end.ensures in
    let lt = place_within c.args.p.now c.args.f i x here in
    c.loop-i.invariant i x (omega (arith, lt, whole)) here writes)
