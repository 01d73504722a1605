use Rattle.std.proofs.Common.{◌≡◌, [], take, drop, false}
use Rattle.std.specs.Prelude.{slice_index_or}
use Rattle.spu_ideal.specs.Landing.{all_land}
use Rattle.spu_ideal.specs.View.{store_of}
use Rattle.spu_ideal.proofs.landing.can_land.Given as goal

abbrev pub invariant-loop-k : goal.invariant-loop-k
invariant-loop-k l =
    all_land (store_of l.store) (λ tag. slice_index_or l.tags tag false) l.areas (take l.k l.queue) (drop l.k l.queue)
    ≡ all_land (store_of l.store) (λ tag. slice_index_or l.tags tag false) l.areas [] l.queue
