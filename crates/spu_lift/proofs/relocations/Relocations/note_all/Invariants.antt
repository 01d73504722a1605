use Rattle.std.proofs.Common.{◌≡◌, ℕ, take}
use Rattle.std.specs.Option.{option_or}
use Rattle.spu_lift.specs.declared.relocations.Spot.{Spot}
use Rattle.spu_lift.specs.LookUps.{first_of, noted}
use Rattle.spu_lift.proofs.relocations.Relocations.note_all.Given as goal

abbrev pub invariant-loop-index : goal.invariant-loop-index
invariant-loop-index l = (q : Spot) → noted l.self q ≡ option_or (noted l.initial.self q) (first_of l.object (take l.index l.relocs) q)
