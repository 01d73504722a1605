use Rattle.spu_word.specs.Chains.{lists_of}
use Rattle.spu_lift.specs.Places.{taken_places}
use Rattle.spu_frame.specs.Surveys.{Hands}
use Rattle.spu_frame.proofs.Ways.{IsAmong}
use Rattle.spu_frame.proofs.spread.Spreading.lead_to_taken.Given as goal

abbrev pub invariant-loop-j : goal.invariant-loop-j
invariant-loop-j l = Hands (IsAmong (taken_places l.p l.f) l.j-index) l.met l.initial.self.met.items (lists_of l.initial.self.waiting 0) l.self.met.items (lists_of l.self.waiting 0)
