use Rattle.std.proofs.Common.{◌≡◌, ℕ, List, take}
use Rattle.std.specs.Option.{option_or}
use Rattle.spu_lift.specs.Tables.{definitions_in}
use Rattle.spu_lift.specs.Defined.{first_id, named}
use Rattle.spu_lift.proofs.definitions.Definitions.define_all.Given as goal

abbrev pub invariant-loop-symbol : goal.invariant-loop-symbol
invariant-loop-symbol l = (q : List ℕ) → named l.self q ≡ option_or (named l.initial.self q) (first_id q (definitions_in l.object (take l.symbol l.symbols)))
