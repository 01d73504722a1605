use Rattle.std.proofs.Common.{◌≡◌, ◌+◌, drop, length}
use Rattle.spu_cesof.specs.Unpacking.{names_check, joined}
use Rattle.spu_cesof.proofs.naming.check_names.Given as goal

abbrev pub invariant-loop-name : goal.invariant-loop-name
invariant-loop-name l = record {
  checks : names_check l.end l.at (drop l.name-index l.names) ≡ names_check l.end l.from l.names;
  total : l.at + length (joined (drop l.name-index l.names)) ≡ l.from + length (joined l.names);
}
