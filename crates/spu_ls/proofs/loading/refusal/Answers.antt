use Rattle.std.proofs.Common.{◌<◌, ◌^◌, Some, ap, ◌∙◌, arith, length}
use Rattle.spu_ls.proofs.Misfits.{unresolved_in, overlap_in, range_in, outside_in}
use Rattle.spu_ls.proofs.loading.refusal.Goals as goal

pub unresolved-requires : goal.unresolved-requires
unresolved-requires c =
    let h = unresolved_in c.args.x.now c.args.file.now c.args.inputs.now c.in-Unresolved.k (c.requires.misfit ∙ ap Some c.in-Unresolved.is) in
    record { inside = h.0; long = h.1 }

pub overlap-requires : goal.overlap-requires
overlap-requires c =
    let h : c.in-Overlap.k < length c.args.inputs.now.areas = overlap_in c.args.x.now c.args.file.now c.args.inputs.now c.in-Overlap.k (c.requires.misfit ∙ ap Some c.in-Overlap.is) in
    omega (arith, ap length c.as_slice.ensures)

pub out_of_range-requires : goal.out_of_range-requires
out_of_range-requires c =
    let h : c.in-OutOfRange.k < length c.args.inputs.now.areas = range_in c.args.x.now c.args.file.now c.args.inputs.now c.in-OutOfRange.k (c.requires.misfit ∙ ap Some c.in-OutOfRange.is) in
    omega (arith, ap length c.as_slice-in-OutOfRange.ensures)

pub overflow_cast-result : goal.overflow_cast-result
overflow_cast-result c =
    let h : c.in-Outside.k < 2 ^ 32 = outside_in c.args.x.now c.args.file.now c.args.inputs.now c.in-Outside.k c.requires.few (c.requires.misfit ∙ ap Some c.in-Outside.is) in
    omega arith
