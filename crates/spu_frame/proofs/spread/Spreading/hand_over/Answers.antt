use Rattle.std.proofs.Common.{◌≡◌, ℕ, Some, None, ap, arith}
use Rattle.spu_word.specs.Chains.{lists_of}
use Rattle.spu_lift.specs.declared.program.Operand.{Operand}
use Rattle.spu_lift.specs.declared.program.Operand.TheVariants as operand
use Rattle.spu_frame.specs.Walks.{Branches}
use Rattle.spu_frame.specs.Functions.{branch_target}
use Rattle.spu_frame.proofs.Formed.{branch_within}
use Rattle.spu_frame.proofs.Ways.{hands_one, hands_nowhere, target_one, target_none}
use Rattle.spu_frame.proofs.spread.Spreading.hand_over.Goals as goal

branch_is : (o : Operand) (j : ℕ) → Some j ≡ branch_target o → o ≡ operand.Branch j
branch_is operand.Plain j e = absurd (cc)
branch_is (operand.Number n) j e = absurd (cc)
branch_is (operand.Address l) j e = absurd (cc)
branch_is (operand.Call g) j e = absurd (cc)
branch_is (operand.Jump g) j e = absurd (cc)
branch_is (operand.Branch t) j e = let same : t ≡ j = cc in ap operand.Branch same

branch_not : (o : Operand) (j : ℕ) → None ≡ branch_target o → o ≡ operand.Branch j → ⊥
branch_not o j none e = let some : branch_target o ≡ Some j = ap branch_target e in cc

pub hand_all-requires : goal.hand_all-requires
hand_all-requires c =
    let to = branch_is c.instruction.result.now.operand c.in-Some.j c.in-Some.ensures in
    let lt = branch_within c.args.p.now c.requires.formed c.args.f c.args.i c.in-Some.j c.instruction.result.now c.instruction.ensures to in
    let nodes = c.requires.nodes in
    omega (arith, lt, nodes)

pub returns-in-Some : goal.returns-in-Some
returns-in-Some c =
    let p = c.args.p.now in
    let f = c.args.f in
    let i = c.args.i in
    let x = c.instruction.result.now in
    let to = branch_is x.operand c.in-Some.j c.in-Some.ensures in
    hands_one (Branches p f i) c.in-Some.j c.args.met c.args.self.now.met.items c.hand_all.new.self.met.items (lists_of c.args.self.now.waiting 0) (lists_of c.hand_all.new.self.waiting 0)
    (record { x = x; here = c.instruction.ensures; to = to }) (target_one p f i x c.in-Some.j c.instruction.ensures to) c.hand_all.ensures

pub returns-in-None : goal.returns-in-None
returns-in-None c =
    let x = c.instruction.result.now in
    hands_nowhere (Branches c.args.p.now c.args.f c.args.i) c.args.met c.args.self.now.met.items (lists_of c.args.self.now.waiting 0)
    (target_none c.args.p.now c.args.f c.args.i x c.instruction.ensures (λ j e. branch_not x.operand j c.in-None.ensures e))
