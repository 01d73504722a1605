use Rattle.std.proofs.Common.{◌≡◌, ◌++◌, take}
use Rattle.std.specs.List.{flat_map}
use Rattle.spu_word.specs.Bytes.{be_half_digits}
use Rattle.spu_elf.proofs.writing.drafts.put_halves.Given as goal

abbrev pub invariant-loop-h : goal.invariant-loop-h
invariant-loop-h l = l.out ≡ l.initial.out ++ flat_map be_half_digits (take l.h-index l.halves)
