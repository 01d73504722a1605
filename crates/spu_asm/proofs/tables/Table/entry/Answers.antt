use Rattle.std.proofs.Common.{sym}
use Rattle.spu_asm.proofs.TableLemmas.{rest_some}
use Rattle.spu_asm.proofs.tables.Table.entry.Goals as goal

pub returns-in-Some-clause-rest : goal.returns-in-Some-clause-rest
returns-in-Some-clause-rest g c = rest_some c.args.self.now.map.entries c.args.i (c.in-Some.name.now, c.in-Some.value.now) (sym c.in-Some.ensures.entry)
