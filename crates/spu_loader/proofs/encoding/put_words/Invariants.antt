use Rattle.std.proofs.Common.{◌≡◌, ◌+◌, ◌++◌, Some, map, take}
use Rattle.spu_isa.specs.Decoding.{decoded}
use Rattle.spu_loader.proofs.encoding.put_words.Given as goal

abbrev pub invariant-loop-i : goal.invariant-loop-i
invariant-loop-i l = map decoded (take (l.at + l.i) l.words) ≡ map decoded (take l.at l.initial.words) ++ map Some (take l.i l.code)
