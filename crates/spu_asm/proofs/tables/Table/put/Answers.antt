use Rattle.std.proofs.Common.{◌∙◌, ap}
use Rattle.spu_asm.proofs.TableLemmas.{seen, seen_put}
use Rattle.spu_asm.proofs.tables.Table.put.Goals as goal

pub returns : goal.returns
returns g c = record { ok = ap seen c.in_ok-insert.ensures.entries ∙ seen_put c.args.self.now.map.entries c.args.name c.args.value }
