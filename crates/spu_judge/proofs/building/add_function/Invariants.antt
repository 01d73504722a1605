use Rattle.std.proofs.Common.{◌≡◌}
use Rattle.spu_graph.specs.Graphs.{frames_of, edges_of}
use Rattle.spu_judge.specs.Building.{AreMore}
use Rattle.spu_judge.proofs.Adding.{IsOutBelow}
use Rattle.spu_judge.proofs.building.add_function.Given as goal

abbrev pub invariant-loop-i : goal.invariant-loop-i
invariant-loop-i l = record { more : AreMore (IsOutBelow l.p l.f l.i) (edges_of l.initial.graph) (edges_of l.graph); same : frames_of l.graph ≡ frames_of l.initial.graph }
