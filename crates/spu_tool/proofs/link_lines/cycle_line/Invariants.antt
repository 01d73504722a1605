use Rattle.std.proofs.Common.{◌≡◌, ◌++◌, codes, take}
use Rattle.std.specs.List.{flat_map}
use Rattle.spu_tool.proofs.link_lines.cycle_line.Given as goal

abbrev pub invariant-loop-name : goal.invariant-loop-name
invariant-loop-name l = l.line ≡ codes "L18 Recursion" ++ flat_map (λ name. codes " " ++ name) (take l.name-index l.names)
