use Rattle.std.proofs.Common.{◌≡◌, take, map}
use Rattle.spu_judge.specs.Answers.{name_of}
use Rattle.spu_judge.specs.Building.{functions_among}
use Rattle.spu_judge.proofs.telling.names_of.Given as goal

abbrev pub invariant-loop-f : goal.invariant-loop-f
invariant-loop-f l = l.names ≡ map (name_of l.p) (functions_among l.p (take l.f-index l.nodes))
