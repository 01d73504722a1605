use Rattle.std.proofs.Common.{◌≡◌, ◌<◌, ℕ, length}
use Rattle.spu_graph.specs.Known.{need_of}
use Rattle.spu_image.specs.Filling.{told_in}
use Rattle.spu_image.proofs.telling.told_needs.Given as goal

abbrev pub invariant-loop-f : goal.invariant-loop-f
invariant-loop-f l = record { count : length l.told.items ≡ l.f; each : (f : ℕ) → f < l.f → told_in l.told.items f ≡ need_of l.needs f }
