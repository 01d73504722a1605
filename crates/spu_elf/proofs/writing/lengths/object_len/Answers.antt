use Rattle.std.proofs.Common.{ℕ, sym, ◌∙◌}
use Rattle.spu_elf.proofs.ExtentLemmas.{spell_length}
use Rattle.spu_elf.proofs.writing.lengths.object_len.Goals as goal

pub returns : goal.returns
returns c = λ (machine : ℕ). c.parts_len.ensures ∙ sym (spell_length machine c.args.start c.args.o.now c.requires.from)
