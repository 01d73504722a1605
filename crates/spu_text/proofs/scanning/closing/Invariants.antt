use Rattle.std.proofs.Common.{◌≡◌, drop, ◌+◌}
use Rattle.std.specs.Prelude.{option_map, false}
use Rattle.spu_text.specs.Texts.{closing}
use Rattle.spu_text.proofs.scanning.closing.Given as goal

abbrev pub invariant-loop-i : goal.invariant-loop-i
invariant-loop-i l = option_map (λ n. l.i + n) (closing l.escaped (drop l.i l.bytes)) ≡ closing false l.bytes
