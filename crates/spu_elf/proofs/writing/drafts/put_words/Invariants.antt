use Rattle.std.proofs.Common.{◌≡◌, ◌++◌, take}
use Rattle.std.specs.List.{flat_map}
use Rattle.spu_word.specs.Bytes.{be_digits}
use Rattle.spu_elf.proofs.writing.drafts.put_words.Given as goal

abbrev pub invariant-loop-w : goal.invariant-loop-w
invariant-loop-w l = l.out ≡ l.initial.out ++ flat_map be_digits (take l.w-index l.words)
