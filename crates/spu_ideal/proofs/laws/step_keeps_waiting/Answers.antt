use Rattle.spu_ideal.proofs.Waiting.{waiting_kept}
use Rattle.spu_ideal.proofs.laws.step_keeps_waiting.Goals as goal

pub returns : goal.returns
returns c p frames limit s allowed h = waiting_kept p limit frames s allowed h
