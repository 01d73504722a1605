use Rattle.std.proofs.Common.{sym, ◌∙◌}
use Rattle.spu_asm.proofs.JoinTables.{same_sym}
use Rattle.spu_asm.proofs.TableLemmas.{distinct_names, is_its_place}
use Rattle.spu_asm.proofs.tables.Table.is_at.Goals as goal

pub returns-in-Some : goal.returns-in-Some
returns-in-Some g c = λ e. is_its_place c.args.self.now.map.entries c.args.name.now c.args.i (c.in-Some.key.now, c.in-Some.field-0-1.now) (distinct_names c.args.self.now.map.entries c.len-len.ensures.unique) (sym c.in-Some.ensures.entry) (same_sym c.args.name.now c.in-Some.key.now.now ∙ sym c.eq.ensures ∙ e)
