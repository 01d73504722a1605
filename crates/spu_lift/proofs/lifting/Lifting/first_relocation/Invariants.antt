use Rattle.spu_lift.specs.Checks.{IsShownBy}
use Rattle.spu_lift.proofs.RelocPasses.{IsFirstBelow}
use Rattle.spu_lift.proofs.lifting.Lifting.first_relocation.Given as goal

abbrev pub invariant-loop-index : goal.invariant-loop-index
invariant-loop-index l = IsFirstBelow (IsShownBy l.check l.self.tables.objects.now l.object) l.o.relocs l.index l.first
