use Rattle.std.proofs.Common.{◌≡◌, ◌≤◌, ◌^◌, ◌+◌, ◌*◌, drop}
use Rattle.spu_cesof.specs.Unpacking.{named_checks}
use Rattle.spu_cesof.proofs.naming.check_all_named.Given as goal

abbrev pub invariant-loop-s : goal.invariant-loop-s
invariant-loop-s l = record {
  checks : named_checks l.bytes l.p l.place l.at (drop l.s-index l.symbols) ≡ named_checks l.bytes l.p l.from 1 l.symbols;
  place : l.place ≡ l.from + 16 * l.s-index;
  at : l.at ≤ 2 ^ 32;
}
