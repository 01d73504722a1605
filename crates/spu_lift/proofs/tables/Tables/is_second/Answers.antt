use Rattle.std.proofs.Common.{◌∙◌}
use Rattle.spu_lift.specs.Checks.{spot_of}
use Rattle.spu_lift.proofs.RelocFits.{second_if}
use Rattle.spu_lift.proofs.tables.Tables.is_second.Goals as goal

pub returns : goal.returns
returns c =
    let at = rw c.spot_of.ensures at c.first_at.ensures in
    second_if c.args.self.now.objects.now c.args.object c.args.index c.args.r.now c.first_at.result c.ne.result c.requires.sound.there
    (at ∙ c.requires.tables.relocations (spot_of c.args.object c.args.r.now)) c.ne.ensures
