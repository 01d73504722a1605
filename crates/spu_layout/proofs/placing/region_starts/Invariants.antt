use Rattle.std.proofs.Common.{◌≡◌, ℕ, ◌+◌, ◌<◌, length, slice_index}
use Rattle.spu_layout.specs.Placing.{region_start}
use Rattle.spu_layout.proofs.placing.region_starts.Given as goal

abbrev pub invariant-loop-r : goal.invariant-loop-r
invariant-loop-r l = (length l.starts ≡ l.r + 1) × ((k : ℕ) → k < l.r + 1 → slice_index l.starts k ≡ region_start l.p l.plan k)
