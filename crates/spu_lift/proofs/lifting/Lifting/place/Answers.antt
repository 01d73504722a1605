use Rattle.std.proofs.Common.{◌≡◌, pos, w64, arith, rules}
use Rattle.std.proofs.lemmas.Int.{ints, to_z-of_z}
use Rattle.spu_lift.proofs.PlaceLemmas.{fits_unsigned, none_for, place_small}
use Rattle.spu_lift.proofs.lifting.Lifting.place.Goals as goal

pub returns-in-Ok-clause-none : goal.returns-in-Ok-clause-none
returns-in-Ok-clause-none c =
    let is : c.args.offset ≡ pos c.in-Ok.offset = first_of (search rules, grind (arith, ints, to_z-of_z)) in
    none_for c.args.self.now.functions.sorted.items c.args.object c.args.section c.in-Ok.offset c.args.offset c.place_at.result is c.place_at.ensures.none

pub returns-in-Err-clause-none : goal.returns-in-Err-clause-none
returns-in-Err-clause-none c = λ p for.
    c.in-Err.ensures (fits_unsigned _ c.args.offset for.at (to_z-of_z w64 c.args.offset c.ranges.offset) for.is
    (place_small c.args.self.now.functions.sorted.items (record { object = c.args.object; section = c.args.section; offset = for.at }) p c.requires for.place))
