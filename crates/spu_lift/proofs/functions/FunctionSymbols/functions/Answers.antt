use Rattle.std.proofs.Common.{◌+◌, List, ap, sym, subst, ◌∙◌, arith, Vec, Global}
use Rattle.std.proofs.lemmas.Option.{slice_get-get_or}
use Rattle.spu_lift.specs.declared.functions.FunctionSymbol.{FunctionSymbol}
use Rattle.spu_lift.proofs.FirstSymbols.{AreFirsts, first_kept, first_pushed}
use Rattle.spu_lift.proofs.FunctionNames.{functions_found}
use Rattle.spu_lift.proofs.functions.FunctionSymbols.functions.Goals as goal
use Rattle.spu_lift.proofs.functions.FunctionSymbols.functions.Goals.{then-is_new+in_ok-push, else-is_new}

pub loop-f-preserved : goal.loop-f-preserved
loop-f-preserved c =
    let ss = c.as_slice-f-items.result.now in
    let n = c.loop-f.f-index in
    let P : List FunctionSymbol → Type 0 = λ fs. AreFirsts c.as_slice-f-items.result.now (c.loop-f.f-index + 1) fs in
    λ sorted. elim c.if-is_new.branch [
      | then-is_new+in_ok-push w ↦
          let are = ap (λ (v : Vec FunctionSymbol Global). v.items) w.functions-is ∙ w.in_ok-push.ensures.items in
          subst P (sym are) (first_pushed ss n c.loop-f.functions.items c.as_slice.result.now _ sorted c.as_slice.ensures.value (sym w.if-is_new.ensures) (slice_get-get_or ss n _ c.loop-f-test.true) (c.loop-f.invariant sorted))
      | else-is_new w ↦
          subst P (sym (ap (λ (v : Vec FunctionSymbol Global). v.items) w.functions-is)) (first_kept ss n c.loop-f.functions.items c.as_slice.result.now _ c.as_slice.ensures.value (sym w.if-is_new.ensures) (slice_get-get_or ss n _ c.loop-f-test.true) (c.loop-f.invariant sorted))
    ]

pub returns : goal.returns
returns c os symbols = functions_found os c.args.self.now.sorted.items c.as_slice-f-items.result.now c.loop-f.functions.items c.loop-f.f-index c.as_slice-f-items.ensures.value (omega arith) symbols c.loop-f.invariant
