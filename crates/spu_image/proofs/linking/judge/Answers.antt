use Rattle.spu_image.proofs.linking.judge.Goals as goal

pub returns-in-Err-clause-fault : goal.returns-in-Err-clause-fault
returns-in-Err-clause-fault c = c.lift_refusal.ensures c.args.objects.now c.args.entry.now c.args.limit c.in-Err.ensures.fault

pub returns-in-Err-judge_program-clause-fault : goal.returns-in-Err-judge_program-clause-fault
returns-in-Err-judge_program-clause-fault c =
    c.judge_refusal.ensures c.args.objects.now c.args.entry.now c.args.limit c.in-Ok.prog c.in-Ok.ensures.lifted c.in-Err-judge_program.ensures.refused
