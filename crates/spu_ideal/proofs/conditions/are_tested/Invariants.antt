use Rattle.std.proofs.Common.{◌≡◌}
use Rattle.spu_exec.specs.Tested.{tested}
use Rattle.spu_ideal.specs.Quads.{quad_bytes}
use Rattle.spu_ideal.specs.Results.{are_known}
use Rattle.spu_ideal.proofs.conditions.are_tested.Given as goal

abbrev pub invariant-loop-j : goal.invariant-loop-j
invariant-loop-j l = l.all ≡ are_known (tested l.op l.source) (quad_bytes l.quad) l.j
