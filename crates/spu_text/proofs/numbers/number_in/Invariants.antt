use Rattle.std.proofs.Common.{◌≡◌, drop}
use Rattle.spu_text.specs.Texts.{number_in}
use Rattle.spu_text.proofs.NumberSteps.{number_after}
use Rattle.spu_text.proofs.numbers.number_in.Given as goal

abbrev pub invariant-loop-c : goal.invariant-loop-c
invariant-loop-c l = number_after l.radix l.n (drop l.c-index l.digits) ≡ number_in l.radix l.digits
