use Rattle.std.proofs.Common.{sym, ap}
use Rattle.std.proofs.lemmas.Option.{slice_get-get_or}
use Rattle.spu_frame.specs.Surveys.{met_in}
use Rattle.spu_frame.proofs.met.met_at.Goals as goal

pub returns : goal.returns
returns c = sym (ap met_in (slice_get-get_or c.args.met.now c.args.i _ c.requires))
