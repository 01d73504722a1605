use Rattle.std.proofs.Common.{◌<◌, length, arith}
use Rattle.std.proofs.lemmas.Grind.{common_steps}
use Rattle.spu_elf.proofs.ExecutableLoops.{section_names_from}
use Rattle.spu_elf.proofs.reading.executable_symbols.section_names.Goals as goal

pub loop-k-preserved : goal.loop-k-preserved
loop-k-preserved c =
    let lt : c.loop-k.k < length c.args.loads.now = grind (arith, common_steps) in
    let step = section_names_from c.loop-k.all c.args.loads.now c.loop-k.k lt in
    cc (c.in_ok-extend.ensures.ok, c.in_ok-push-2.ensures.ok, c.in_ok-segment_name.ensures, c.as_slice.ensures, c.loop-k.invariant)
