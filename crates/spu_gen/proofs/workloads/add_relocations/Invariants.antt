use Rattle.std.proofs.Common.{◌≡◌, ◌++◌, take}
use Rattle.spu_gen.specs.Workloads.{relocations}
use Rattle.spu_gen.proofs.workloads.add_relocations.Given as goal

abbrev pub invariant-loop-k : goal.invariant-loop-k
invariant-loop-k l = l.relocs ≡ l.initial.relocs ++ relocations l.section 0 (take l.k l.lines)
