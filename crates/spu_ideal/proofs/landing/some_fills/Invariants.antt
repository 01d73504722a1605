use Rattle.std.proofs.Common.{◌≡◌, drop, false}
use Rattle.std.specs.Prelude.{slice_index_or}
use Rattle.spu_ideal.specs.Landing.{some_fills}
use Rattle.spu_ideal.proofs.landing.some_fills.Given as goal

abbrev pub invariant-loop-t : goal.invariant-loop-t
invariant-loop-t l = some_fills (λ tag. slice_index_or l.tags tag false) l.areas (drop l.t-index l.queue) l.at ≡ some_fills (λ tag. slice_index_or l.tags tag false) l.areas l.queue l.at
