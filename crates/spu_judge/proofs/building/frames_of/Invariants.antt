use Rattle.spu_frame.specs.Found.{frame_at}
use Rattle.spu_judge.proofs.Adding.{AreFrames}
use Rattle.spu_judge.proofs.building.frames_of.Given as goal

abbrev pub invariant-loop-f : goal.invariant-loop-f
invariant-loop-f l = AreFrames l.frames l.f (frame_at l.depths)
