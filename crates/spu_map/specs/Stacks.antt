-- The printed stack of a program's functions. (This project's own.)
use Rattle.std.specs.Prelude.{ℕ, ◌-◌, List, [], ◌++◌, length, codes, Option, Some, None}
use Rattle.std.specs.List.{flat_map, range_with_len}
use Rattle.std.specs.Fmt.{decimal}
use Rattle.spu_lift.specs.declared.program.Prog.{Prog}
use Rattle.spu_frame.specs.declared.depths.Depths.{Depths}
use Rattle.spu_frame.specs.Found.{frame_at}
use Rattle.spu_graph.specs.declared.needed.Needs.{Needs}
use Rattle.spu_graph.specs.Known.{need_of}
use Rattle.spu_judge.specs.Answers.{name_of}

abbrev pub frame_line : ℕ → ℕ → List ℕ → List ℕ
frame_line frame need name = codes "frame " ++ decimal frame ++ codes " need " ++ decimal need ++ codes " " ++ name ++ codes "\n"

-- a function that no path from the entry reaches has no line
abbrev pub needed_line : Option ℕ → ℕ → List ℕ → List ℕ
needed_line None frame name = []
needed_line (Some need) frame name = frame_line frame need name

abbrev pub function_line : Prog → Depths → Needs → ℕ → List ℕ
function_line p d n f = needed_line (need_of n f) (frame_at d f) (name_of p f)

-- the lines of the functions from 1 on
abbrev pub stack_text : Prog → Depths → Needs → List ℕ
stack_text p d n = flat_map (function_line p d n) (range_with_len 1 (length p.functions - 1))
