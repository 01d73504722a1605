use Rattle.spu_lift.proofs.RelocFits.{may_stand_none, may_stand_some}
use Rattle.spu_lift.proofs.tables.Tables.may_stand.Goals as goal

pub returns-in-Some : goal.returns-in-Some
returns-in-Some c = λ t there.
    let has = rw c.spot_of.ensures at c.may_have.ensures in
    may_stand_some t c.args.r.now c.in-Some.kind c.may_have.result c.in-Some.ensures.some (has t there)

pub returns-in-None : goal.returns-in-None
returns-in-None c = λ t there. may_stand_none t c.args.r.now c.in-None.ensures.none
