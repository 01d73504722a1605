use Rattle.std.proofs.Common.{take}
use Rattle.spu_gen.specs.Workloads.{AreWords}
use Rattle.spu_gen.proofs.workloads.words_of.Given as goal

abbrev pub invariant-loop-line : goal.invariant-loop-line
invariant-loop-line l = AreWords (take l.line-index l.lines) l.bytes
