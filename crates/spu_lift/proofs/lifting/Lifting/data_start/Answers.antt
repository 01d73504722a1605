use Rattle.std.proofs.Common.{◌∙◌, sym}
use Rattle.spu_lift.proofs.BuiltLemmas.{data_low}
use Rattle.spu_lift.proofs.lifting.Lifting.data_start.Goals as goal

pub returns-in-Some-Data-clause-low : goal.returns-in-Some-Data-clause-low
returns-in-Some-Data-clause-low c = data_low c.args.self.now.tables.objects.now c.args.self.now.tables.sections c.args.object c.args.section c.in-Some-Data.address c.in-Some-Data.field-0 c.requires.sections (sym c.placing.ensures ∙ c.in-Some-Data.is) c.in-Some-Data.field-0-is
