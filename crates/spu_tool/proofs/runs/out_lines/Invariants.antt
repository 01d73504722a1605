use Rattle.std.proofs.Common.{◌≡◌, take}
use Rattle.std.specs.List.{flat_map}
use Rattle.spu_tool.specs.Makes.{out_line}
use Rattle.spu_tool.proofs.runs.out_lines.Given as goal

abbrev pub invariant-loop-word : goal.invariant-loop-word
invariant-loop-word l = l.text ≡ flat_map out_line (take l.word-index l.words)
