use Rattle.spu_frame.proofs.Findings.{AreDepthsTo}
use Rattle.spu_frame.proofs.survey.depths.Given as goal

abbrev pub invariant-loop-i : goal.invariant-loop-i
invariant-loop-i l = AreDepthsTo l.p l.f l.met l.i l.depths l.frame
