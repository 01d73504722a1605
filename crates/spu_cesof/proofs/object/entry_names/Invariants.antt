use Rattle.std.proofs.Common.{◌≡◌, ◌≤◌, ◌++◌, drop, length}
use Rattle.spu_cesof.specs.Embedding.{entry_names}
use Rattle.spu_cesof.proofs.object.entry_names.Given as goal

abbrev pub invariant-loop-s : goal.invariant-loop-s
invariant-loop-s l = record {
  value : l.names ++ entry_names (drop l.s-index l.symbols) ≡ entry_names l.symbols;
  few : length l.names ≤ l.s-index;
}
