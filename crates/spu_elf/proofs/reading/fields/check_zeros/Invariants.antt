use Rattle.std.proofs.Common.{◌≡◌, ◌+◌, ◌-◌, replicate}
use Rattle.spu_elf.specs.Checks.{bytes_check, zeros_check}
use Rattle.spu_elf.specs.declared.faults.ElfKind.TheVariants as kinds
use Rattle.spu_elf.proofs.reading.fields.check_zeros.Given as goal

abbrev pub invariant-loop-i : goal.invariant-loop-i
invariant-loop-i l = bytes_check l.bytes kinds.BadTable (l.at + l.i) (replicate (l.count - l.i) 0) ≡ zeros_check l.bytes l.at l.count
