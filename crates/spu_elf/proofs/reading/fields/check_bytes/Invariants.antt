use Rattle.std.proofs.Common.{◌≡◌, ◌+◌, drop}
use Rattle.spu_elf.specs.Checks.{bytes_check}
use Rattle.spu_elf.proofs.reading.fields.check_bytes.Given as goal

abbrev pub invariant-loop-i : goal.invariant-loop-i
invariant-loop-i l = bytes_check l.bytes l.kind (l.at + l.i) (drop l.i l.expected) ≡ bytes_check l.bytes l.kind l.at l.expected
