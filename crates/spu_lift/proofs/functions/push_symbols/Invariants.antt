use Rattle.std.proofs.Common.{◌≡◌, ◌++◌, ℕ, take}
use Rattle.std.specs.List.{enumerate_from, filter_map}
use Rattle.spu_elf.specs.declared.objects.Symbol.{Symbol}
use Rattle.spu_lift.specs.Gathered.{symbol_in}
use Rattle.spu_lift.proofs.functions.push_symbols.Given as goal

abbrev pub invariant-loop-number : goal.invariant-loop-number
invariant-loop-number l = l.symbols.items ≡ l.initial.symbols.items ++ filter_map (λ (q : ℕ × Symbol). symbol_in l.object l.o.sections q.0 q.1) (enumerate_from 0 (take l.number l.o.symbols))
