use Rattle.std.proofs.Common.{◌≡◌, ◌+◌, true, List, length, refl, sym, ap, ◌∙◌, subst, arith}
use Rattle.spu_word.specs.Chains.{lists_of}
use Rattle.spu_lift.specs.declared.program.SymInst.{SymInst}
use Rattle.spu_lift.specs.Places.{kind_of}
use Rattle.spu_frame.specs.Walks.{goes_on, GoesOn}
use Rattle.spu_frame.proofs.Walks.{same_instruction}
use Rattle.spu_frame.proofs.Formed.{place_at, place_within}
use Rattle.spu_frame.proofs.Ways.{hands_one, hands_nowhere, next_one, next_none}
use Rattle.spu_frame.proofs.spread.Spreading.hand_on.Goals as goal
use Rattle.spu_frame.proofs.spread.Spreading.hand_on.Goals.{else-goes_on-via-then-goes_on+else-i-code_of, else-goes_on-via-else-goes_on}

pub returns-then-i-code_of : goal.returns-then-i-code_of
returns-then-i-code_of c =
    let p = c.args.p.now in
    let f = c.args.f in
    let i = c.args.i in
    let whole = ap (λ (cs : List SymInst). length cs) c.code_of.ensures in
    let test = c.if-i-code_of.true in
    let there = place_at p f (i + 1) (omega (arith, whole, test)) in
    let goes : GoesOn p f i (i + 1) = record { x = c.instruction.result.now; here = c.instruction.ensures; on = sym c.goes_on.ensures ∙ c.if-goes_on.true; next = refl; y = there.0; there = there.1 } in
    hands_one (GoesOn p f i) (i + 1) c.args.met c.args.self.now.met.items c.hand_all.new.self.met.items (lists_of c.args.self.now.waiting 0) (lists_of c.hand_all.new.self.waiting 0) goes (next_one p f i) c.hand_all.ensures

pub returns-else-goes_on : goal.returns-else-goes_on
returns-else-goes_on c =
    let p = c.args.p.now in
    let f = c.args.f in
    let i = c.args.i in
    hands_nowhere (GoesOn p f i) c.args.met c.args.self.now.met.items (lists_of c.args.self.now.waiting 0) (next_none p f i (λ g.
    (elim c.else-goes_on.branch [
      | else-goes_on-via-then-goes_on+else-i-code_of w ↦ (
          let whole = ap (λ (cs : List SymInst). length cs) w.code_of.ensures in
          let lt = place_within p f (i + 1) g.y g.there in
          let test = w.if-i-code_of.false in
          omega (arith, whole, lt, test))
      | else-goes_on-via-else-goes_on w ↦ (
          let same = same_instruction _ _ _ g.here c.instruction.ensures in
          let on : goes_on (kind_of c.instruction.result.now) c.instruction.result.now.inst.op ≡ true = subst (λ (x : SymInst). goes_on (kind_of x) x.inst.op ≡ true) same g.on in
          let off = w.if-goes_on.false in
          let is = c.goes_on.ensures in
          cc)
    ])))
