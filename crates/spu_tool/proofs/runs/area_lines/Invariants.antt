use Rattle.std.proofs.Common.{◌≡◌, take}
use Rattle.std.specs.List.{flat_map}
use Rattle.spu_tool.specs.Makes.{area_line}
use Rattle.spu_tool.proofs.runs.area_lines.Given as goal

abbrev pub invariant-loop-area : goal.invariant-loop-area
invariant-loop-area l = l.text ≡ flat_map area_line (take l.area-index l.areas)
