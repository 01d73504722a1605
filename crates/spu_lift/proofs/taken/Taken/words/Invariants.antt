use Rattle.std.proofs.Common.{◌+◌, ◌≤◌}
use Rattle.spu_lift.specs.TakenPlaces.{takes}
use Rattle.spu_lift.proofs.RisingTaken.{ArePassing}
use Rattle.spu_lift.proofs.taken.Taken.words.Given as goal

abbrev pub invariant-loop-word : goal.invariant-loop-word
invariant-loop-word l = record { passing : ArePassing (λ w. takes l.self (record { function = l.function; word = w })) l.word l.words; low : l.word ≤ l.count + 1 }
