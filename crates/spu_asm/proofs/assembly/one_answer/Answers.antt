use Rattle.spu_asm.proofs.OneAnswer.{one_object, not_both, one_fault, some_answer}
use Rattle.spu_asm.proofs.assembly.one_answer.Goals as goal

pub returns-clause-object : goal.returns-clause-object
returns-clause-object c = one_object

pub returns-clause-not_both : goal.returns-clause-not_both
returns-clause-not_both c = not_both

pub returns-clause-fault : goal.returns-clause-fault
returns-clause-fault c = one_fault

pub returns-clause-some : goal.returns-clause-some
returns-clause-some c = some_answer
