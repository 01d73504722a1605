use Rattle.std.proofs.Common.{◌≡◌, ◌++◌, map, take}
use Rattle.std.specs.Prelude.{filter}
use Rattle.spu_lift.specs.Tables.{holds_code}
use Rattle.spu_lift.specs.Built.{code_section}
use Rattle.spu_lift.proofs.building.push_code.Given as goal

abbrev pub invariant-loop-section : goal.invariant-loop-section
invariant-loop-section l = l.code ≡ l.initial.code ++ map code_section (filter holds_code (take l.section-index l.sections))
