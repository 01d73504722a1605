use Rattle.spu_asm.proofs.TableLemmas.{distinct_names}
use Rattle.spu_asm.proofs.tables.Table.len.Goals as goal

pub returns-clause-distinct : goal.returns-clause-distinct
returns-clause-distinct g c = distinct_names c.args.self.now.map.entries c.len.ensures.unique
