use Rattle.std.proofs.Common.{◌≡◌, ◌∷◌, ◌++◌, drop}
use Rattle.spu_elf.specs.Executables.{segment_names}
use Rattle.spu_elf.proofs.reading.executable_symbols.section_names.Given as goal

abbrev pub invariant-loop-k : goal.invariant-loop-k
invariant-loop-k l = l.all ++ segment_names l.k (drop l.k l.loads) ≡ 0 ∷ segment_names 0 l.loads
