use Rattle.std.proofs.Common.{◌<◌, refl, rules, subst}
use Rattle.spu_plan.specs.Choices.{PermitsFlat, PermitsOverlays, flat_end_of}
use Rattle.spu_plan.specs.Choosing.{IsLeastEnd}
use Rattle.spu_plan.proofs.Planned.{are_too_large}
use Rattle.spu_plan.proofs.making.make_plan.Goals as goal

pub returns-in-TooLarge-clause-fault : goal.returns-in-TooLarge-clause-fault
returns-in-TooLarge-clause-fault c =
    let permitted : PermitsOverlays c.args.input.now.mode = search rules in
    let needed : PermitsFlat c.args.input.now.mode → c.args.input.now.room < flat_end_of c.args.input.now = search rules in
    let least = subst (λ end. IsLeastEnd c.args.input.now.mode end c.in-TooLarge.least c.least_end.result) c.flat_end-flat_end.ensures c.least_end.ensures in
    (are_too_large c.args.input.now permitted needed c.in-TooLarge.least c.in-TooLarge.ensures c.least_end.result least, refl)
