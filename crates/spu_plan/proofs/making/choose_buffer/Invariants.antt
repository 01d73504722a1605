use Rattle.spu_plan.proofs.Choosing.{LowestOf}
use Rattle.spu_plan.proofs.making.choose_buffer.Given as goal

abbrev pub invariant-loop-buffer : goal.invariant-loop-buffer
invariant-loop-buffer l = LowestOf l.input l.buffer-index l.least
