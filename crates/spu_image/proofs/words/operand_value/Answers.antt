use Rattle.std.proofs.Common.{subst, arith}
use Rattle.spu_lift.specs.WellFormed.{IsOperand}
use Rattle.spu_image.proofs.Laid.{label_known, label_inside, inside, callee_known, call_inside, jump_inside}
use Rattle.spu_image.proofs.words.operand_value.Goals as goal

pub code-requires-clause-known : goal.code-requires-clause-known
code-requires-clause-known c =
    label_known c.args.p.now c.args.layout.now c.requires.laid c.in-Address.label (subst (IsOperand c.args.p.now c.args.f c.args.x.now) c.in-Address.is c.requires.stands).1

pub code-requires-clause-inside : goal.code-requires-clause-inside
code-requires-clause-inside c =
    label_inside c.args.p.now c.args.layout.now c.requires.laid c.in-Address.label (subst (IsOperand c.args.p.now c.args.f c.args.x.now) c.in-Address.is c.requires.stands).1

pub call_target-requires-clause-caller : goal.call_target-requires-clause-caller
call_target-requires-clause-caller c = let n = c.requires.laid.functions in omega (arith, n, c.requires.known)

pub call_target-requires-clause-callee : goal.call_target-requires-clause-callee
call_target-requires-clause-callee c =
    callee_known c.args.p.now c.args.layout.now c.requires.laid c.in-Call.g (subst (IsOperand c.args.p.now c.args.f c.args.x.now) c.in-Call.is c.requires.stands).1

pub call_target-requires-clause-inside : goal.call_target-requires-clause-inside
call_target-requires-clause-inside c =
    call_inside c.args.p.now c.args.layout.now c.requires.laid c.args.f c.in-Call.g (subst (IsOperand c.args.p.now c.args.f c.args.x.now) c.in-Call.is c.requires.stands).1

pub jump_target-requires-clause-from : goal.jump_target-requires-clause-from
jump_target-requires-clause-from c = let n = c.requires.laid.functions in omega (arith, n, c.requires.known)

pub jump_target-requires-clause-to : goal.jump_target-requires-clause-to
jump_target-requires-clause-to c =
    callee_known c.args.p.now c.args.layout.now c.requires.laid c.in-Jump.g (subst (IsOperand c.args.p.now c.args.f c.args.x.now) c.in-Jump.is c.requires.stands).1

pub jump_target-requires-clause-inside : goal.jump_target-requires-clause-inside
jump_target-requires-clause-inside c =
    jump_inside c.args.p.now c.args.layout.now c.requires.laid c.args.f c.in-Jump.g (subst (IsOperand c.args.p.now c.args.f c.args.x.now) c.in-Jump.is c.requires.stands).1

pub address-requires : goal.address-requires
address-requires c = record {
  known = let n = c.requires.laid.functions in omega (arith, n, c.requires.known);
  inside = inside c.args.p.now c.args.layout.now c.requires.laid c.args.f c.in-Branch.i (subst (IsOperand c.args.p.now c.args.f c.args.x.now) c.in-Branch.is c.requires.stands).1;
}
