use Rattle.std.proofs.Common.{◌≡◌, ◌+◌, ◌≤◌, length, drop}
use Rattle.spu_elf.specs.Spelling.{groups}
use Rattle.spu_elf.proofs.writing.object.group_count.Given as goal

abbrev pub invariant-loop-k : goal.invariant-loop-k
invariant-loop-k l = record { rest : l.count + length (groups l.k (drop l.k l.sections) l.rest) ≡ length (groups 0 l.sections l.relocs); few : l.count ≤ l.k }
