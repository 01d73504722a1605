use Rattle.spu_lift.proofs.ReadyFunctions.{functions_ready}
use Rattle.spu_lift.proofs.checking.lift.Goals as goal

pub program-requires-clause-ready : goal.program-requires-clause-ready
program-requires-clause-ready c =
    let l = c.in_ok-lifting.lifting in
    let its = c.in_ok-lifting.ensures.lifting in
    functions_ready l.tables.objects.now c.args.entry.now l.functions.sorted.items (record { formed = its.tables.formed; faultless = c.in_ok-entry.ensures.ok; functions = its.functions }) c.in_ok-entry.ensures.places
