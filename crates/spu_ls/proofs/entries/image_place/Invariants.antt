use Rattle.std.proofs.Common.{◌≡◌, drop}
use Rattle.spu_ls.specs.Entries.{image_place}
use Rattle.spu_ls.proofs.entries.image_place.Given as goal

abbrev pub invariant-loop-s : goal.invariant-loop-s
invariant-loop-s l = image_place (drop l.s-index l.symbols) ≡ image_place l.symbols
