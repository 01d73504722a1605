use Rattle.std.proofs.Common.{◌-◌, false, get_or, sym, subst, ◌∙◌, arith}
use Rattle.std.proofs.lemmas.Option.{slice_get-get_or}
use Rattle.spu_lift.specs.declared.functions.FunctionSymbol.{FunctionSymbol}
use Rattle.spu_lift.specs.FunctionTables.{AreSymbolsOf}
use Rattle.spu_lift.proofs.SharedPlaces.{first_shared_is, none_meet_more, none_shared}
use Rattle.spu_lift.proofs.functions.FunctionSymbols.first_shared.Goals as goal

unfoldable none : FunctionSymbol
none = record { object = 0; section = 0; offset = 0; size = 0; local = false; symbol = 0 }

pub returns-then-meets-clause-some : goal.returns-then-meets-clause-some
unfolding none
returns-then-meets-clause-some c os symbols =
    let all = c.as_slice-all.result.now in
    let i = c.loop-i.i in
    first_shared_is all i (get_or all (i - 1) none) (get_or all i none) (omega arith) (slice_get-get_or all (i - 1) none (omega arith)) (slice_get-get_or all i none (omega arith)) (sym c.meets.ensures ∙ c.if-meets.true) c.loop-i.invariant
    c.start.result c.start.ensures os (subst (AreSymbolsOf os) (sym c.as_slice-all.ensures.value) symbols)

pub loop-i-preserved : goal.loop-i-preserved
unfolding none
loop-i-preserved c =
    let all = c.as_slice-all.result.now in
    let i = c.loop-i.i in
    none_meet_more all i (get_or all (i - 1) none) (get_or all i none) (slice_get-get_or all (i - 1) none (omega arith)) (slice_get-get_or all i none (omega arith)) (sym c.meets.ensures ∙ c.if-meets.false) c.loop-i.invariant

pub returns-clause-none : goal.returns-clause-none
returns-clause-none c os symbols =
    none_shared c.as_slice-all.result.now c.loop-i.i (omega arith) c.loop-i.invariant os (subst (AreSymbolsOf os) (sym c.as_slice-all.ensures.value) symbols)
