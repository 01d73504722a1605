use Rattle.std.proofs.Common.{◌≡◌, ◌+◌, length}
use Rattle.spu_samples.proofs.Formed.{IsBuilt}
use Rattle.spu_samples.proofs.programs.program.Given as goal

abbrev pub invariant-loop-body : goal.invariant-loop-body
invariant-loop-body l = record { count : length l.functions ≡ l.body-index + 1; built : IsBuilt l.count l.functions l.code }
