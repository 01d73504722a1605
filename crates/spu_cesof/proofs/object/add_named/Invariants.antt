use Rattle.std.proofs.Common.{◌≡◌, ◌++◌, drop, map}
use Rattle.spu_cesof.specs.Embedding.{named_symbols, entry_symbol}
use Rattle.spu_cesof.proofs.object.add_named.Given as goal

abbrev pub invariant-loop-entry : goal.invariant-loop-entry
invariant-loop-entry l = l.all ++ map entry_symbol (drop l.entry-index l.names) ≡ l.fn.all ++ named_symbols l.fn.name l.names
