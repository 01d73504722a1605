use Rattle.std.specs.Prelude.{option_to_list}
use Rattle.spu_gen.specs.declared.lines.Line.TheVariants.{KeepLink}
use Rattle.spu_gen.proofs.Relocated.{relocations_more}
use Rattle.spu_gen.proofs.workloads.add_relocations.Goals as goal

pub loop-k-preserved : goal.loop-k-preserved
loop-k-preserved c =
    relocations_more c.args.section c.args.lines.now c.loop-k.k KeepLink c.args.relocs.now c.loop-k.relocs (option_to_list c.relocation.result) _ c.loop-k-test.true c.relocation.ensures
    c.in_ok-add_some.ensures c.loop-k.invariant
