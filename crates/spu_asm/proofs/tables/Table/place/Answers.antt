use Rattle.std.proofs.Common.{◌∙◌}
use Rattle.spu_asm.proofs.TableLemmas.{seen_place}
use Rattle.spu_asm.proofs.tables.Table.place.Goals as goal

pub returns-else-is_at : goal.returns-else-is_at
returns-else-is_at g c = c.get_index_of.ensures.index ∙ seen_place c.args.self.now.map.entries c.args.name.now
