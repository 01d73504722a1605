use Rattle.std.proofs.Common.{◌≡◌, ◌+◌, ◌-◌, false}
use Rattle.std.specs.Prelude.{slice_index_or}
use Rattle.spu_ideal.specs.Landing.{is_readable}
use Rattle.spu_ideal.specs.View.{store_of}
use Rattle.spu_ideal.proofs.landing.is_readable.Given as goal

abbrev pub invariant-loop-k : goal.invariant-loop-k
invariant-loop-k l =
    is_readable (store_of l.store) (λ tag. slice_index_or l.tags tag false) l.areas l.before (l.t.local + l.k) (l.t.size - l.k)
    ≡ is_readable (store_of l.store) (λ tag. slice_index_or l.tags tag false) l.areas l.before l.t.local l.t.size
