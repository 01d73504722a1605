use Rattle.std.proofs.Common.{◌≡◌, ◌++◌, drop}
use Rattle.spu_cesof.specs.Unpacking.{joined}
use Rattle.spu_cesof.proofs.unpacking.joined.Given as goal

abbrev pub invariant-loop-name : goal.invariant-loop-name
invariant-loop-name l = l.all ++ joined (drop l.name-index l.names) ≡ joined l.names
