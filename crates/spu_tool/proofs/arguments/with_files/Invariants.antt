use Rattle.std.proofs.Common.{◌≡◌, ◌∷◌, take}
use Rattle.spu_tool.specs.Arguments.{texts_of}
use Rattle.spu_tool.proofs.arguments.with_files.Given as goal

abbrev pub invariant-loop-other : goal.invariant-loop-other
invariant-loop-other l = texts_of l.all.items ≡ l.file ∷ texts_of (take l.other-index l.files)
