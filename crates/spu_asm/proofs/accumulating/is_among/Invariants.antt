use Rattle.std.proofs.Common.{◌≡◌, List, ℕ, length, map, Bor}
use Rattle.spu_asm.specs.Histories.{is_among}
use Rattle.spu_asm.proofs.accumulating.is_among.Given as goal

abbrev pub invariant-loop-rest : goal.invariant-loop-rest
invariant-loop-rest l = is_among (map (λ (w : Bor (List ℕ)). w.now) l.rest) l.name ≡ is_among (map (λ (w : Bor (List ℕ)). w.now) l.fn.names) l.name

abbrev pub decreases-loop-rest : goal.decreases-loop-rest
decreases-loop-rest l = length l.rest
