use Rattle.std.proofs.Common.{◌≡◌, drop, map}
use Rattle.std.specs.List.{fold}
use Rattle.spu_elf.specs.Spelling.{added, groups, relocation_part}
use Rattle.spu_elf.specs.Views.{draft_of}
use Rattle.spu_elf.proofs.writing.object.add_groups.Given as goal

abbrev pub invariant-loop-k : goal.invariant-loop-k
invariant-loop-k l = fold added (draft_of l.file) (map (relocation_part l.symbols) (groups l.k (drop l.k l.sections) l.rest)) ≡ fold added (draft_of l.initial.file) (map (relocation_part l.symbols) (groups 0 l.sections l.relocs))
