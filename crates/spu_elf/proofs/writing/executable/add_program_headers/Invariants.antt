use Rattle.std.proofs.Common.{◌≡◌, ◌++◌, ◌≤◌, ◌+◌, ◌*◌, ◌^◌, drop}
use Rattle.spu_elf.specs.Spelling.{program_headers}
use Rattle.spu_elf.proofs.writing.executable.add_program_headers.Given as goal

abbrev pub invariant-loop-s : goal.invariant-loop-s
invariant-loop-s l = record { headers : l.out ++ program_headers l.at (drop l.s-index l.segments) ≡ l.initial.out ++ program_headers l.from l.segments; near : l.at ≤ 1000000 + l.s-index * 2 ^ 23 }
