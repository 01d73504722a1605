use Rattle.std.proofs.Common.{◌≡◌, ◌++◌, drop, map}
use Rattle.std.specs.List.{filter}
use Rattle.spu_elf.specs.Reading.{symbol_of, keeps_symbol}
use Rattle.spu_elf.proofs.reading.object.symbols.Given as goal

abbrev pub invariant-loop-y : goal.invariant-loop-y
invariant-loop-y l = l.all ++ map (symbol_of l.numbers l.table) (filter (keeps_symbol l.numbers) (drop l.y-index l.entries)) ≡ map (symbol_of l.numbers l.table) (filter (keeps_symbol l.numbers) l.entries)
