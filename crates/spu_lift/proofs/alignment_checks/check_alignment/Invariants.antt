use Rattle.std.proofs.Common.{[]}
use Rattle.spu_lift.specs.declared.fault.LiftKind.TheVariants.{Misaligned}
use Rattle.spu_lift.specs.LiftFaults.{Shows}
use Rattle.spu_lift.specs.Checks.{IsNowhereBelow}
use Rattle.spu_lift.proofs.alignment_checks.check_alignment.Given as goal

abbrev pub invariant-loop-object : goal.invariant-loop-object
invariant-loop-object l = IsNowhereBelow (Shows Misaligned l.objects ([])) l.object
