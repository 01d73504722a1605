use Rattle.std.proofs.Common.{subst, arith}
use Rattle.spu_frame.specs.Faults.{IsFrameFault}
use Rattle.spu_frame.specs.Found.{IsRefused}
use Rattle.spu_judge.proofs.Promised.{fault_small}
use Rattle.spu_judge.proofs.judging.frame_refusal.Goals as goal

pub overflow_mul-result : goal.overflow_mul-result
overflow_mul-result c =
    let fault : IsFrameFault c.args.p.now c.in-Fault.kind c.in-Fault.function c.in-Fault.place = subst (IsRefused c.args.p.now) c.in-Fault.is c.requires.fault in
    let small = fault_small c.args.p.now c.requires.formed c.in-Fault.kind c.in-Fault.function c.in-Fault.place fault in
    omega (arith, small)
