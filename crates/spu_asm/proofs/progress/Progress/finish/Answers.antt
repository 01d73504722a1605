use Rattle.spu_asm.proofs.ProgressLemmas.{finish_object, finish_none}
use Rattle.spu_asm.proofs.progress.Progress.finish.Goals as goal

pub returns-in-Some-2 : goal.returns-in-Some-2
returns-in-Some-2 c = λ r p. finish_object r c.args.self.now c.in-Some-2.object p c.in-None.is (rw c.in-Some-2.is at c.in_ok-object-in-None.ensures)

pub returns-in-None-2 : goal.returns-in-None-2
returns-in-None-2 c = λ r p. finish_none r c.args.self.now p c.in-None.is (rw c.in-None-2.is at c.in_ok-object-in-None.ensures)
