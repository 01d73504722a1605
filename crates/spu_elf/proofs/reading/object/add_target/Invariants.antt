use Rattle.std.proofs.Common.{◌≡◌, ◌++◌, drop}
use Rattle.spu_elf.specs.Reading.{relocs_for}
use Rattle.spu_elf.proofs.reading.object.add_target.Given as goal

abbrev pub invariant-loop-h : goal.invariant-loop-h
invariant-loop-h l = l.out ++ relocs_for l.bytes l.numbers l.symbols (drop l.h-index l.tables) l.k ≡ l.initial.out ++ relocs_for l.bytes l.numbers l.symbols l.tables l.k
