use Rattle.spu_ideal.proofs.Moved.{moving}
use Rattle.spu_ideal.proofs.moving.moves_move.Goals as goal

pub returns : goal.returns
returns c = moving
