use Rattle.spu_asm.proofs.FoundNames.{directive_found}
use Rattle.spu_asm.proofs.directives.directive_of.Goals as goal

pub returns : goal.returns
returns c = directive_found c.named.result _ c.named.ensures.some c.named.ensures.none
