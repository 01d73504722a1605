use Rattle.std.proofs.Common.{◌≡◌, ◌++◌, take}
use Rattle.spu_image.specs.Images.{stack_symbols}
use Rattle.spu_image.specs.Filling.{told_in}
use Rattle.spu_image.proofs.symbols.put_stack_symbols.Given as goal

abbrev pub invariant-loop-f : goal.invariant-loop-f
invariant-loop-f l = l.symbols ≡ l.fn.symbols ++ stack_symbols (told_in l.told) 1 (take l.f l.others)
