use Rattle.std.proofs.Common.{◌≡◌, ℕ, ◌<◌, get_or, length}
use Rattle.spu_lift.specs.declared.symbolic.SymByte.TheVariants.{Unknown}
use Rattle.spu_ideal.specs.Results.{label_value_byte}
use Rattle.spu_ideal.proofs.computing.label_value.Given as goal

abbrev pub invariant-loop-k : goal.invariant-loop-k
invariant-loop-k l = record { len : length l.out ≡ 16; same : (k : ℕ) → k < l.k → get_or l.out k Unknown ≡ label_value_byte l.i l.l l.a l.b l.c l.t k }
