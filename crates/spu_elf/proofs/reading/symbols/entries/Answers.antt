use Rattle.std.proofs.Common.{◌+◌, ◌*◌, ℕ, arith}
use Rattle.std.proofs.lemmas.List.FromFn.{map-range_with_len_more}
use Rattle.std.proofs.lemmas.Grind.{common_steps}
use Rattle.spu_elf.specs.Reading.{entry_at}
use Rattle.spu_elf.proofs.reading.symbols.entries.Goals as goal

pub loop-j-preserved : goal.loop-j-preserved
loop-j-preserved c = record {
  value = let m = map-range_with_len_more (λ (k : ℕ). entry_at c.args.bytes.now (c.args.h.now.offset + 16 * k)) 1 c.loop-j.j (c.loop-j.j + 1) (omega arith) in cc c.in_ok-push.ensures.ok;
  near = grind (arith, common_steps);
  long = grind (arith, common_steps);
}
