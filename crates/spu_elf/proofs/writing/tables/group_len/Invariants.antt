use Rattle.std.proofs.Common.{◌≡◌, ◌+◌, drop}
use Rattle.std.specs.List.{prefix_len}
use Rattle.spu_elf.specs.Spelling.{is_in}
use Rattle.spu_elf.proofs.writing.tables.group_len.Given as goal

abbrev pub invariant-loop-i : goal.invariant-loop-i
invariant-loop-i l = l.i + prefix_len (is_in l.k) (drop l.i l.relocs) ≡ prefix_len (is_in l.k) l.relocs
