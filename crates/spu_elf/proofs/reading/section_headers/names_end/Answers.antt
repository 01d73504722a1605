use Rattle.std.proofs.Common.{◌<◌, length, arith}
use Rattle.std.proofs.lemmas.Grind.{common_steps}
use Rattle.spu_elf.proofs.ExecutableLoops.{names_from}
use Rattle.spu_elf.proofs.reading.section_headers.names_end.Goals as goal

pub loop-k-preserved : goal.loop-k-preserved
loop-k-preserved c =
    let lt : c.loop-k.k < length c.args.loads.now = grind (arith, common_steps) in
    let step = names_from c.args.loads.now c.loop-k.k c.loop-k.len lt in
    record { value = cc (c.segment_name_len.ensures.value, c.loop-k.invariant.value); small = grind (arith, common_steps) }
