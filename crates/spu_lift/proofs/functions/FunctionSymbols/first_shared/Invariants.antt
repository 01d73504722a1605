use Rattle.spu_lift.proofs.SharedPlaces.{NoneMeet}
use Rattle.spu_lift.proofs.functions.FunctionSymbols.first_shared.Given as goal

abbrev pub invariant-loop-i : goal.invariant-loop-i
invariant-loop-i l = NoneMeet l.all l.i
