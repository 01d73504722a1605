use Rattle.std.proofs.Common.{◌∙◌, sym, ap}
use Rattle.spu_asm.proofs.TableLemmas.{seen, seen_there, seen_missing}
use Rattle.spu_asm.proofs.tables.Table.open.Goals as goal

pub returns-in-Some : goal.returns-in-Some
returns-in-Some g c = record { ok = seen_there c.args.self.now.map.entries c.args.name.now c.args.value c.in-Some.i (sym c.in-Some.ensures) }

pub returns-in_ok-insert-in-None : goal.returns-in_ok-insert-in-None
returns-in_ok-insert-in-None g c = record { ok = ap seen c.in_ok-insert-in-None.ensures.entries ∙ seen_missing c.args.self.now.map.entries c.args.name c.args.value (sym c.in-None.ensures) }
