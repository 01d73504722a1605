use Rattle.spu_lift.specs.Meanings.{field_of}
use Rattle.spu_lift.proofs.WordPasses.{goes_astray_so}
use Rattle.spu_lift.proofs.lifting.Lifting.shows_instruction.Goals as goal

pub returns-in-BadTarget : goal.returns-in-BadTarget
returns-in-BadTarget c = λ e of.
    let os = c.args.self.now.tables.objects.now in
    rw c.in-BadTarget.is (goes_astray_so os c.args.self.now.functions.sorted.items c.args.function e c.args.x.now (field_of os c.args.spot.object c.args.spot.section c.args.spot.offset c.args.x.now) c.goes_astray.result
    c.requires.lifting.functions of c.goes_astray.ensures)
