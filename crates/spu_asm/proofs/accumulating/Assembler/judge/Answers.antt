use Rattle.std.proofs.Common.{refl}
use Rattle.spu_asm.proofs.accumulating.Assembler.judge.Goals as goal

pub returns : goal.returns
returns c = rw (c.lesser.ensures, c.fault_if-clash.ensures, c.clashes.ensures, c.read_fault.ensures, c.as_slice-labels.ensures.value) refl
