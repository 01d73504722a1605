use Rattle.spu_layout.specs.Views.{AreEnds, AreStarts}
use Rattle.spu_layout.proofs.placing.section_starts.Given as goal

abbrev pub invariant-loop-k : goal.invariant-loop-k
invariant-loop-k l = AreStarts l.p l.plan l.k l.starts × AreEnds l.p l.plan l.k l.ends
