use Rattle.std.proofs.Common.{◌≡◌, Option, sym, ap, subst, ◌∙◌, rules}
use Rattle.spu_isa.specs.declared.operation.Kind.{Kind}
use Rattle.spu_isa.specs.Table.{row_of}
use Rattle.spu_lift.specs.declared.tables.Meaning.{Meaning}
use Rattle.spu_lift.specs.Meanings.{field_of}
use Rattle.spu_lift.specs.FunctionTables.{IsOperandIn}
use Rattle.spu_lift.proofs.LiftedWords.{if_none, none_lifted}
use Rattle.spu_lift.proofs.lifting.Lifting.lifted.Goals as goal

pub returns-in_err-inst-clause-none : goal.returns-in_err-inst-clause-none
returns-in_err-inst-clause-none c = if_none c.from_residual.result _ (λ s is. c.in_err-inst.ensures.none is.x is.word)

pub returns-in_err-operand-clause-none : goal.returns-in_err-operand-clause-none
returns-in_err-operand-clause-none c =
    let fs = c.args.self.now.functions.sorted.items in
    let f = c.args.function in
    let kinds : c.info.result.kind ≡ (row_of c.in_ok-inst.inst.op).kind = search rules in
    if_none c.from_residual-in_err-operand.result _ (none_lifted c.args.self.now.tables.objects.now fs f c.args.spot c.in_ok-inst.inst c.in_ok-inst.ensures.some (sym c.is_hint.ensures ∙ c.if-is_hint.false) (λ o stands.
    c.in_err-operand.ensures.none o (subst (λ (k : Kind). IsOperandIn fs f k c.field-field.result o) (sym kinds) (subst (λ (m : Option Meaning). IsOperandIn fs f (row_of c.in_ok-inst.inst.op).kind m o) (sym c.field-field.ensures) stands))))
