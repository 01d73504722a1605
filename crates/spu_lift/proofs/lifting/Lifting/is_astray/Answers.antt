use Rattle.std.specs.Option.{is_some}
use Rattle.spu_lift.proofs.WordPasses.{astray_if, negated}
use Rattle.spu_lift.proofs.lifting.Lifting.is_astray.Goals as goal

pub returns-in-Code : goal.returns-in-Code
returns-in-Code c =
    let some = rw c.in-Code.is at c.place_meant.ensures.some in
    let none = rw c.in-Code.is at c.place_meant.ensures.none in
    rw c.in-Code.is (astray_if c.args.self.now.tables.objects.now c.args.self.now.functions.sorted.items c.in-Code.object c.in-Code.section c.in-Code.offset c.place_meant.result c.is_none.result c.requires.lifting.functions some none (negated (is_some c.place_meant.result) c.is_none.result c.is_none.ensures))
