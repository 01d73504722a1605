use Rattle.std.proofs.Common.{◌≡◌, ◌++◌, take}
use Rattle.spu_graph.specs.Graphs.{frames_of, edges_of}
use Rattle.spu_judge.specs.Building.{jumps_to}
use Rattle.spu_judge.proofs.building.add_taken.Given as goal

abbrev pub invariant-loop-g : goal.invariant-loop-g
invariant-loop-g l = record { more : edges_of l.graph ≡ edges_of l.initial.graph ++ jumps_to l.p (take l.g-index l.taken); same : frames_of l.graph ≡ frames_of l.initial.graph }
