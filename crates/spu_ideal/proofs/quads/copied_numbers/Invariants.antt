use Rattle.std.proofs.Common.{◌≡◌, ℕ, ◌<◌, get_or, length}
use Rattle.spu_ideal.proofs.quads.copied_numbers.Given as goal

abbrev pub invariant-loop-k : goal.invariant-loop-k
invariant-loop-k l = record { len : length l.bytes ≡ 16; same : (k : ℕ) → k < l.k → get_or l.bytes k 0 ≡ get_or l.quad.0 k 0; small : (k : ℕ) → k < l.k → get_or l.bytes k 0 < 256 }
