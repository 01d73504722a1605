use Rattle.std.proofs.Common.{◌≡◌, ◌+◌, ◌*◌, drop}
use Rattle.spu_elf.specs.Checks.{halves_check}
use Rattle.spu_elf.proofs.reading.fields.check_halves.Given as goal

abbrev pub invariant-loop-i : goal.invariant-loop-i
invariant-loop-i l = halves_check l.bytes l.kind (l.at + 2 * l.i) (drop l.i l.halves) ≡ halves_check l.bytes l.kind l.at l.halves
