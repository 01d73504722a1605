use Rattle.std.proofs.Common.{◌≡◌, ◌++◌, take}
use Rattle.spu_layout.specs.Views.{layout_in}
use Rattle.spu_image.specs.Images.{function_symbols}
use Rattle.spu_image.specs.Filling.{is_of}
use Rattle.spu_image.proofs.symbols.put_symbols.Given as goal

abbrev pub invariant-loop-f : goal.invariant-loop-f
invariant-loop-f l = l.symbols ≡ l.fn.symbols ++ function_symbols (layout_in l.layout) (is_of l.global) 1 (take l.f l.others)
