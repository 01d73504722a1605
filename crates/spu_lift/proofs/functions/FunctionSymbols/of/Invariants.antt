use Rattle.std.proofs.Common.{◌≡◌, take}
use Rattle.spu_lift.specs.Gathered.{function_symbols}
use Rattle.spu_lift.proofs.functions.FunctionSymbols.of.Given as goal

abbrev pub invariant-loop-object : goal.invariant-loop-object
invariant-loop-object l = l.symbols.items ≡ function_symbols (take l.object l.objects)
