use Rattle.std.proofs.Common.{◌≡◌, ◌∷◌, take}
use Rattle.std.specs.Prelude.{map}
use Rattle.spu_layout.specs.Views.{spot_in}
use Rattle.spu_layout.proofs.placing.function_spots.Given as goal

abbrev pub invariant-loop-g : goal.invariant-loop-g
invariant-loop-g l = l.spots ≡ record { start = l.fn.start; region = 0 } ∷ map (spot_in l.sections l.regions) (take l.g-index l.others)
