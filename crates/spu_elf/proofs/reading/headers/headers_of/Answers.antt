use Rattle.std.proofs.Common.{zero-add, arith}
use Rattle.std.proofs.lemmas.List.FromFn.{map-range_with_len_more}
use Rattle.std.proofs.lemmas.Grind.{common_steps}
use Rattle.spu_elf.specs.Reading.{header}
use Rattle.spu_elf.proofs.reading.headers.headers_of.Goals as goal

pub loop-k-preserved : goal.loop-k-preserved
loop-k-preserved c = record {
  value = let m = map-range_with_len_more (header c.args.bytes.now) 0 c.loop-k.k c.loop-k.k (zero-add c.loop-k.k) in cc c.in_ok-push.ensures.ok;
  near = grind (arith, common_steps);
}
