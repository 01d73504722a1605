use Rattle.spu_cesof.proofs.NameParts.{Listed}
use Rattle.spu_cesof.proofs.naming.names_in.Given as goal

abbrev pub invariant-loop-k : goal.invariant-loop-k
invariant-loop-k l = Listed l.all l.rest l.names l.count l._k
