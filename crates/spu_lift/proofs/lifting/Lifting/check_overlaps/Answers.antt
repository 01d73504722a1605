use Rattle.spu_lift.specs.Checks.{IsNowhere}
use Rattle.spu_lift.proofs.CoverPasses.{ShowsShared, no_shared, shared_answer, shared_fails, shared_there}
use Rattle.spu_lift.proofs.lifting.Lifting.check_overlaps.Goals as goal

pub site_fault-requires : goal.site_fault-requires
site_fault-requires c =
    let os = c.args.self.now.tables.objects.now in
    shared_there os c.in-Some.spot c.requires.lifting.tables.formed c.requires.aligned (c.in-Some.ensures.some os c.requires.lifting.symbols)

pub returns-in-Some-clause-ok : goal.returns-in-Some-clause-ok
returns-in-Some-clause-ok c =
    let os = c.args.self.now.tables.objects.now in
    shared_fails os c.in-Some.spot c.site_fault.result (IsNowhere (ShowsShared os)) c.requires.lifting.tables.formed c.requires.aligned (c.in-Some.ensures.some os c.requires.lifting.symbols) c.site_fault.ensures

pub returns-in-Some-clause-err : goal.returns-in-Some-clause-err
returns-in-Some-clause-err c =
    let os = c.args.self.now.tables.objects.now in
    shared_answer os c.in-Some.spot c.site_fault.result c.requires.lifting.tables.formed c.requires.aligned (c.in-Some.ensures.some os c.requires.lifting.symbols) c.site_fault.ensures

pub returns-in-None-clause-ok : goal.returns-in-None-clause-ok
returns-in-None-clause-ok c = no_shared c.args.self.now.tables.objects.now (c.in-None.ensures.none c.args.self.now.tables.objects.now c.requires.lifting.symbols)
