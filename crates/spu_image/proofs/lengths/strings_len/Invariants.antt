use Rattle.std.proofs.Common.{◌≡◌, ◌+◌, ◌*◌, ◌≤◌, take}
use Rattle.spu_elf.specs.Lengths.{strings_len}
use Rattle.spu_image.proofs.lengths.strings_len.Given as goal

abbrev pub invariant-loop-s : goal.invariant-loop-s
invariant-loop-s l = record { value : l.len ≡ strings_len (take l.s-index l.symbols); small : l.len ≤ 1 + 1024 * l.s-index }
