use Rattle.spu_ls.proofs.Beginning.{start_sound}
use Rattle.spu_ls.proofs.soundness.start_is_sound.Goals as goal

pub returns : goal.returns
returns c = start_sound
