use Rattle.std.proofs.Common.{length}
use Rattle.spu_lift.specs.Places.{taken_places}
use Rattle.spu_frame.specs.Functions.{code_of}
use Rattle.spu_frame.proofs.Marks.{AreMarks}
use Rattle.spu_frame.proofs.known.targets.Given as goal

abbrev pub invariant-loop-x : goal.invariant-loop-x
invariant-loop-x l = AreMarks l.code l.x-index (taken_places l.p l.f) 0 l.marks.items

abbrev pub invariant-loop-j : goal.invariant-loop-j
invariant-loop-j l = AreMarks (code_of l.p l.f) (length (code_of l.p l.f)) (taken_places l.p l.f) l.j-index l.marks.items
