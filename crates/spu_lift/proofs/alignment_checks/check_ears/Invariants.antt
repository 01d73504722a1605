use Rattle.spu_lift.specs.Checks.{IsMisalignedEar, IsNoneBelow}
use Rattle.spu_lift.proofs.alignment_checks.check_ears.Given as goal

abbrev pub invariant-loop-symbol : goal.invariant-loop-symbol
invariant-loop-symbol l = IsNoneBelow (λ i y. IsMisalignedEar l.o.sections y) l.o.symbols l.symbol-index
