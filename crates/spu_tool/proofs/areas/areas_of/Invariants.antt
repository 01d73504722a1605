use Rattle.std.proofs.Common.{◌≡◌, ◌++◌, drop}
use Rattle.spu_tool.specs.Areas.{areas_of}
use Rattle.spu_tool.proofs.areas.areas_of.Given as goal

abbrev pub invariant-loop-k : goal.invariant-loop-k
invariant-loop-k l = l.areas ++ areas_of (drop l.k l.places) (drop l.k l.files) ≡ areas_of l.places l.files
