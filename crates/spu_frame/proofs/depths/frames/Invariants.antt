use Rattle.spu_frame.specs.Flaws.{AreFound}
use Rattle.spu_frame.proofs.depths.frames.Given as goal

abbrev pub invariant-loop-f : goal.invariant-loop-f
invariant-loop-f l = AreFound l.p l.f l.functions l.worst
