use Rattle.std.proofs.Common.{◌≡◌, ◌++◌, map, take, drop}
use Rattle.spu_image.specs.Images.{data_symbol}
use Rattle.spu_image.proofs.DataSymbols.{AreLeft}
use Rattle.spu_image.proofs.symbols.put_data_symbols.Given as goal

abbrev pub invariant-loop-g : goal.invariant-loop-g
invariant-loop-g l = (l.symbols ≡ l.fn.symbols ++ map (data_symbol l.p) (take l.g-index l.g-items)) × AreLeft l.p (drop l.g-index l.g-items) l.ears
