use Rattle.std.proofs.Common.{◌≡◌, map, take}
use Rattle.std.specs.Prelude.{filter}
use Rattle.spu_lift.specs.Tables.{all_sections, holds_code}
use Rattle.spu_lift.specs.Built.{code_section}
use Rattle.spu_lift.proofs.lifting.Lifting.code.Given as goal

abbrev pub invariant-loop-o : goal.invariant-loop-o
invariant-loop-o l = l.code ≡ map code_section (filter holds_code (all_sections (take l.o-index l.self.tables.objects.now)))
