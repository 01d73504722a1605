use Rattle.std.proofs.Common.{ap, arith}
use Rattle.spu_word.specs.Bytes.{be_digits}
use Rattle.spu_asm.specs.Histories.{Draft}
use Rattle.spu_asm.proofs.DraftLemmas.{grown_copies}
use Rattle.spu_asm.proofs.sections.SectionDraft.append_lnops.Goals as goal

pub loop-preserved : goal.loop-preserved
loop-preserved c = record {
  size = let e = ap (λ (d : Draft). d.size) c.in_ok-append.ensures in omega (arith, c.loop.invariant.size);
  drafted = grown_copies (be_digits 0x00200000) c.loop.counter _ _ _ c.loop.invariant.drafted c.in_ok-append.ensures;
}
