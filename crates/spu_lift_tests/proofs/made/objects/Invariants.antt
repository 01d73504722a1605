use Rattle.std.specs.Prelude.{All}
use Rattle.spu_elf.specs.WellFormed.{IsWellFormed}
use Rattle.spu_lift_tests.proofs.made.objects.Given as goal

abbrev pub invariant-loop-object : goal.invariant-loop-object
invariant-loop-object l = All IsWellFormed l.objects
