use Rattle.std.proofs.Common.{◌≡◌, ◌+◌, ◌*◌, drop}
use Rattle.std.specs.List.{fold}
use Rattle.spu_elf.specs.Spelling.{added, blank, segment_parts}
use Rattle.spu_elf.specs.Views.{draft_of}
use Rattle.spu_elf.proofs.writing.executable.image_draft.Given as goal

abbrev pub invariant-loop-k : goal.invariant-loop-k
invariant-loop-k l = fold added (draft_of l.file) (segment_parts l.k (drop l.k l.s-items)) ≡ fold added (blank (52 + 32 * l.n)) (segment_parts 0 l.s-items)
