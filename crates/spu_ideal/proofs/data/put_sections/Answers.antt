use Rattle.std.proofs.Common.{length, arith}
use Rattle.spu_ideal.specs.View.{store_of}
use Rattle.spu_ideal.proofs.Filling.{sections_none, sections_all, section_in, section_step}
use Rattle.spu_ideal.proofs.data.put_sections.Goals as goal

pub put_section-requires-clause-inside : goal.put_section-requires-clause-inside
put_section-requires-clause-inside c =
    c.requires.inside c.index-parts-k.result (section_in c.args.parts.now c.loop-k.k c.index-parts-k.result c.loop-k-test.true c.loop-k.auto.k c.index-parts-k.is)

pub put_section-requires-clause-labels : goal.put_section-requires-clause-labels
put_section-requires-clause-labels c =
    c.requires.labels c.index-parts-k.result (section_in c.args.parts.now c.loop-k.k c.index-parts-k.result c.loop-k-test.true c.loop-k.auto.k c.index-parts-k.is)

pub loop-k-init : goal.loop-k-init
loop-k-init c = sections_none c.args.parts.now (length c.args.parts.now) (store_of c.args.store.now) (omega arith) c.requires.zero

pub loop-k-preserved : goal.loop-k-preserved
loop-k-preserved c =
    section_step c.args.parts.now c.loop-k.k c.index-parts-k.result c.loop-k-test.true c.loop-k.auto.k c.index-parts-k.is (store_of c.loop-k.store) (store_of c.put_section.new.store)
    c.loop-k.invariant c.put_section.ensures.value

pub returns-clause-value : goal.returns-clause-value
returns-clause-value c = sections_all c.args.parts.now c.loop-k.k (store_of c.loop-k.store) (omega (arith, c.loop-k-test.false)) c.loop-k.invariant
