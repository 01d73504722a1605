use Rattle.std.proofs.Common.{ℕ, ◌+◌, ◌*◌, ◌/◌}
use Rattle.spu_elf.specs.Reading.{reloc_checks}
use Rattle.spu_elf.proofs.Ranges.{each_range}
use Rattle.spu_elf.proofs.reading.symbols.check_table.Goals as goal

pub loop-j-preserved : goal.loop-j-preserved
loop-j-preserved c = each_range (reloc_checks c.args.bytes.now c.header_or-size.result.size c.args.symbols.now) (λ (k : ℕ). c.args.h.now.offset + 12 * k) c.loop-j.j (c.args.h.now.size / 12) _ c.loop-j-test.true c.in_ok-check_reloc.ensures c.loop-j.invariant
