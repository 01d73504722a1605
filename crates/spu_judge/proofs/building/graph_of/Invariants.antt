use Rattle.std.proofs.Common.{◌≡◌, []}
use Rattle.spu_graph.specs.Graphs.{frames_of, edges_of}
use Rattle.spu_judge.specs.Building.{AreMore}
use Rattle.spu_judge.proofs.Adding.{IsOutOf}
use Rattle.spu_judge.proofs.building.graph_of.Given as goal

abbrev pub invariant-loop-f : goal.invariant-loop-f
invariant-loop-f l = record { more : AreMore (IsOutOf l.p l.f) [] (edges_of l.graph); same : frames_of l.graph ≡ frames_of l.initial.graph }
