use Rattle.std.proofs.Common.{length}
use Rattle.spu_asm.proofs.directives.+is_nobits.Given as goal

abbrev pub decreases-is_nobits : goal.decreases-is_nobits
decreases-is_nobits l = length l.pieces.now
