use Rattle.spu_ls.proofs.Sounding.{step_sound, steps_sound}
use Rattle.spu_ls.proofs.soundness.step_is_sound.Goals as goal

pub returns-clause-one : goal.returns-clause-one
returns-clause-one c = step_sound

pub returns-clause-all : goal.returns-clause-all
returns-clause-all c = steps_sound
