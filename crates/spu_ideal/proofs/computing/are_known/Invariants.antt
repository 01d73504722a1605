use Rattle.std.proofs.Common.{◌≡◌}
use Rattle.spu_exec.specs.Reads.{reads}
use Rattle.spu_ideal.specs.Results.{are_known}
use Rattle.spu_ideal.proofs.computing.are_known.Given as goal

abbrev pub invariant-loop-j : goal.invariant-loop-j
invariant-loop-j l = l.all ≡ are_known (reads l.op l.source l.k) l.quad l.j
