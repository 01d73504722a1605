use Rattle.std.proofs.Common.{◌≡◌, take, map}
use Rattle.std.specs.List.{fold}
use Rattle.spu_elf.specs.Spelling.{added, section_part}
use Rattle.spu_elf.specs.Views.{draft_of}
use Rattle.spu_elf.proofs.writing.object.add_sections.Given as goal

abbrev pub invariant-loop-s : goal.invariant-loop-s
invariant-loop-s l = draft_of l.file ≡ fold added (draft_of l.initial.file) (map section_part (take l.s-index l.sections))
