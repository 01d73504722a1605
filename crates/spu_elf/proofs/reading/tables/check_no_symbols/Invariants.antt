use Rattle.std.proofs.Common.{◌≡◌, ◌+◌, drop}
use Rattle.spu_elf.specs.Checks.{each, fails}
use Rattle.spu_elf.specs.Reading.{is_symbols}
use Rattle.spu_elf.specs.declared.reading.entries.Header.{Header}
use Rattle.spu_elf.specs.declared.faults.ElfKind.TheVariants as kinds
use Rattle.spu_elf.proofs.reading.tables.check_no_symbols.Given as goal

abbrev pub invariant-loop-h : goal.invariant-loop-h
invariant-loop-h l = each (λ (h : Header). fails (is_symbols h) kinds.BadTable (h.place + 4)) (drop l.h-index l.headers) ≡ each (λ (h : Header). fails (is_symbols h) kinds.BadTable (h.place + 4)) l.headers
