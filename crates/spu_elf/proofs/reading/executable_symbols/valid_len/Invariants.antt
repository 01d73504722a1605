use Rattle.std.proofs.Common.{◌≡◌, ◌+◌, ◌&&◌, nat_le, drop}
use Rattle.std.specs.List.{prefix_len}
use Rattle.spu_elf.proofs.reading.executable_symbols.valid_len.Given as goal

abbrev pub invariant-loop-i : goal.invariant-loop-i
invariant-loop-i l = l.i + prefix_len (λ c. nat_le 33 c && nat_le c 126) (drop l.i l.text) ≡ prefix_len (λ c. nat_le 33 c && nat_le c 126) l.text
