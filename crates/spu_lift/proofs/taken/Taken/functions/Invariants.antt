use Rattle.spu_lift.specs.TakenPlaces.{takes}
use Rattle.spu_lift.proofs.RisingTaken.{ArePassing}
use Rattle.spu_lift.proofs.taken.Taken.functions.Given as goal

abbrev pub invariant-loop-function : goal.invariant-loop-function
invariant-loop-function l = ArePassing (λ f. takes l.self (record { function = f; word = 0 })) l.function l.functions
