use Rattle.std.proofs.Common.{sym, ◌∙◌}
use Rattle.spu_asm.proofs.TableLemmas.{index_there, index_none}
use Rattle.spu_asm.proofs.tables.Table.index.Goals as goal

pub returns-in-Some-clause-value : goal.returns-in-Some-clause-value
returns-in-Some-clause-value g c = index_there c.args.self.now.map.entries c.args.name.now c.in-Some.i (sym c.in-Some.ensures.index)

pub returns-in-None-clause-value : goal.returns-in-None-clause-value
returns-in-None-clause-value g c = c.len.ensures.len ∙ index_none c.args.self.now.map.entries c.args.name.now (sym c.in-None.ensures.index)
