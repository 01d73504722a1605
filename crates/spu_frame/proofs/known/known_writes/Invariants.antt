use Rattle.spu_frame.specs.Surveys.{IsScan}
use Rattle.spu_frame.proofs.Scans.{AreKnownTo}
use Rattle.spu_frame.proofs.known.known_writes.Given as goal

abbrev pub invariant-loop-i : goal.invariant-loop-i
invariant-loop-i l = record { scan : IsScan l.p l.f l.writers.items l.straight l.i; known : AreKnownTo l.p l.f l.i l.known.items }
