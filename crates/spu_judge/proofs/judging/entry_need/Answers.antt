use Rattle.std.proofs.Common.{sym}
use Rattle.spu_judge.proofs.Promised.{entry_known}
use Rattle.spu_judge.proofs.judging.entry_need.Goals as goal

pub unreachable-requires : goal.unreachable-requires
unreachable-requires c = entry_known c.args.p.now _ _ c.requires (sym c.in-None.ensures)
