use Rattle.std.proofs.Common.{arith}
use Rattle.spu_asm.proofs.DraftLemmas.{length_lnops}
use Rattle.spu_asm.proofs.sections.SectionDraft.fill.Goals as goal

pub append_lnops-requires : goal.append_lnops-requires
append_lnops-requires c = let r = rw c.in-Code.is at c.requires in omega (arith, length_lnops c.args.n, r)
