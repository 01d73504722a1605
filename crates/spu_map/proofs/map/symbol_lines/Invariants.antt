use Rattle.std.proofs.Common.{◌≡◌, take}
use Rattle.std.specs.List.{flat_map}
use Rattle.spu_map.specs.Maps.{symbol_line}
use Rattle.spu_map.proofs.map.symbol_lines.Given as goal

abbrev pub invariant-loop-s : goal.invariant-loop-s
invariant-loop-s l = l.text ≡ flat_map symbol_line (take l.s-index l.symbols)
