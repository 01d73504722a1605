use Rattle.std.proofs.Common.{◌≡◌, ◌++◌, ◌≤◌, drop}
use Rattle.spu_elf.specs.Reading.{numbering, keeps_symbol, symbol_numbers}
use Rattle.spu_elf.proofs.reading.symbols.symbol_numbers.Given as goal

abbrev pub invariant-loop-y : goal.invariant-loop-y
invariant-loop-y l = record { value : l.all ++ numbering (keeps_symbol l.numbers) l.next (drop l.y-index l.entries) ≡ symbol_numbers l.numbers l.entries; small : l.next ≤ l.y-index }
