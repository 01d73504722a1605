use Rattle.std.proofs.Common.{sym, ap, ◌∙◌}
use Rattle.std.specs.Option.{option_copied}
use Rattle.spu_ideal.proofs.Filling.{none_zero}
use Rattle.spu_ideal.proofs.data.number_in.Goals as goal

pub returns-in-None : goal.returns-in-None
returns-in-None c = none_zero c.args.part.now.bytes c.args.j (sym c.get.ensures ∙ ap option_copied c.in-None.is)
