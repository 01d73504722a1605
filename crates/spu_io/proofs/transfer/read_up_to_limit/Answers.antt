use Rattle.spu_io.proofs.Streams.{read_whole}
use Rattle.spu_io.proofs.transfer.read_up_to_limit.Goals as goal

pub returns-then-branch-eq0-clause-bytes : goal.returns-then-branch-eq0-clause-bytes
returns-then-branch-eq0-clause-bytes g c = read_whole _ _ _ c.loop.bytes c.read_chunk.new.bytes c.in_ok-read_chunk.field-0 c.loop.invariant.1 c.in_ok-read_chunk.ensures c.if-branch-eq0.true
