use Rattle.std.proofs.Common.{◌≡◌, drop}
use Rattle.spu_tool.specs.Numbers.{digits_number, bounded}
use Rattle.spu_tool.proofs.Growing.{number_after}
use Rattle.spu_tool.proofs.numbers.digits_within.Given as goal

abbrev pub invariant-loop-digit : goal.invariant-loop-digit
invariant-loop-digit l = number_after l.radix l.most l.number (drop l.digit-index l.digits) ≡ bounded l.most (digits_number l.radix l.digits)
