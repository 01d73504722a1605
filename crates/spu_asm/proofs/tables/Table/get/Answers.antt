use Rattle.std.proofs.Common.{sym, ap, ◌∙◌}
use Rattle.std.specs.Prelude.{option_map}
use Rattle.spu_asm.proofs.TableLemmas.{place_value, place_nowhere}
use Rattle.spu_asm.proofs.tables.Table.get.Goals as goal

pub returns-in-Some-get_index : goal.returns-in-Some-get_index
returns-in-Some-get_index g c = sym (place_value c.args.self.now.map.entries c.args.name.now c.in-Some.i (sym c.in-Some.ensures) ∙ ap (option_map (λ e. e.1)) (sym c.in-Some-get_index.ensures.entry))

pub returns-in-None : goal.returns-in-None
returns-in-None g c = sym (place_nowhere c.args.self.now.map.entries c.args.name.now (sym c.in-None.ensures))
