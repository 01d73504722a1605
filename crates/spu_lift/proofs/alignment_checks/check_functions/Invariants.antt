use Rattle.spu_lift.specs.Checks.{IsMisalignedFunction, IsNoneBelow}
use Rattle.spu_lift.proofs.alignment_checks.check_functions.Given as goal

abbrev pub invariant-loop-symbol : goal.invariant-loop-symbol
invariant-loop-symbol l = IsNoneBelow (λ i y. IsMisalignedFunction l.o.sections y) l.o.symbols l.symbol-index
