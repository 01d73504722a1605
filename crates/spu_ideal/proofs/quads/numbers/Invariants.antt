use Rattle.std.proofs.Common.{◌≡◌, ℕ, ◌<◌, get_or, length}
use Rattle.spu_lift.specs.declared.symbolic.SymByte.TheVariants.{Unknown}
use Rattle.spu_ideal.specs.Bytes.{number_of}
use Rattle.spu_ideal.proofs.quads.numbers.Given as goal

abbrev pub invariant-loop-k : goal.invariant-loop-k
invariant-loop-k l = record { len : length l.out ≡ 16; same : (k : ℕ) → k < l.k → get_or l.out k 0 ≡ number_of (get_or l.bytes k Unknown) }
