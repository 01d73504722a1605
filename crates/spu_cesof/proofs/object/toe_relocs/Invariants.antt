use Rattle.std.proofs.Common.{◌≡◌, ◌++◌, drop}
use Rattle.spu_cesof.specs.Embedding.{toe_relocs}
use Rattle.spu_cesof.proofs.object.toe_relocs.Given as goal

abbrev pub invariant-loop-k : goal.invariant-loop-k
invariant-loop-k l = l.all ++ toe_relocs l.k (drop l.k l.names) ≡ toe_relocs 0 l.names
