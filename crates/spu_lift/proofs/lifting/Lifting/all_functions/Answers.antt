use Rattle.std.proofs.Common.{length, false, get_or, ◌+◌}
use Rattle.std.proofs.lemmas.Option.{slice_get-get_or}
use Rattle.spu_lift.specs.declared.functions.FunctionSymbol.{FunctionSymbol}
use Rattle.spu_lift.specs.Tables.{data_end_of}
use Rattle.spu_lift.specs.TakenPlaces.{takes}
use Rattle.spu_lift.specs.Built.{IsFunctionBuilt}
use Rattle.spu_lift.proofs.BuiltLemmas.{functions_more}
use Rattle.spu_lift.proofs.lifting.Lifting.all_functions.Goals as goal

abbrev none : FunctionSymbol
none = record { object = 0; section = 0; offset = 0; size = 0; local = false; symbol = 0 }

pub function-requires-clause-ready : goal.function-requires-clause-ready
function-requires-clause-ready c =
    let fs = c.args.self.now.functions.sorted.items in
    let i = c.loop-index.index in
    let within = rw c.as_slice-f-items.ensures at c.loop-index-test.true in
    rw c.as_slice-f-items.ensures (c.requires.ready i (get_or fs i none) (slice_get-get_or fs i none within))

pub loop-index-preserved : goal.loop-index-preserved
loop-index-preserved c =
    let os = c.args.self.now.tables.objects.now in
    let fs = c.args.self.now.functions.sorted.items in
    let i = c.loop-index.index in
    let within = rw c.as_slice-f-items.ensures at c.loop-index-test.true in
    let built = rw c.as_slice-f-items.ensures at c.in_ok-function.ensures in
    functions_more os fs (takes c.args.taken.now) (data_end_of os) c.args.entry i c.loop-index.functions c.push-in-loop-index.new.self (get_or fs i none) c.in_ok-function.field-0 c.loop-index.invariant (slice_get-get_or fs i none within) built
    c.in_ok-push-2.ensures.ok
